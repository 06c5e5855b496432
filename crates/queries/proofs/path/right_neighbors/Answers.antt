use Prim.Native.Nat.{◌+◌, ◌-◌}
use mathlib.Core.Path.{◌≡◌, refl}
use native.Mathlib.Nat.{sub-zero}
use native.Mathlib.Omega.{arith}
use Rattle.edge.proofs.CheckLaws.{head_within}
use Rattle.paths.proofs.TableLaws.{table_start, table_first, table_head, table_place, table_turn, table_ends}
use Rattle.queries.proofs.path.right_neighbors.Goals as goal

pub loop-init : goal.loop-init
loop-init c = rw (sub-zero c.args.count) (table_start _ _ _ c.requires refl refl)

pub overflow_add-at : goal.overflow_add-at
overflow_add-at c = omega (arith, table_head _ _ _ _ _ _ _ c.loop.invariant (omega arith))

pub u16_at-requires : goal.u16_at-requires
u16_at-requires c = omega (arith, table_head _ _ _ _ _ _ _ c.loop.invariant (omega arith))

pub score_at-score-requires : goal.score_at-score-requires
score_at-score-requires c = head_within _ _ _ (table_first _ _ _ _ _ _ _ c.loop.invariant (omega arith)).whole

pub keep-requires : goal.keep-requires
keep-requires c =
    let w = c.loop.invariant in
    let p = table_place _ _ _ _ _ _ _ w (omega arith) c.u16_at.ensures in
    (omega (arith, w.scores), omega (arith, w.offsets))

pub next_at-at-requires : goal.next_at-at-requires
next_at-at-requires c = omega (arith, table_head _ _ _ _ _ _ _ c.loop.invariant (omega arith))

pub loop-preserved : goal.loop-preserved
loop-preserved c =
    let one_less : c.args.count - (c.loop.counter + 1) ≡ c.args.count - c.loop.counter - 1 = omega arith in
    rw one_less
    (table_turn _ _ _ _ _ _ _ c.loop.invariant (omega arith) c.u16_at.ensures c.score_at-score.ensures c.next_at-at.ensures c.keep.ensures.scores c.keep.ensures.kept)

pub returns : goal.returns
returns c = table_ends _ _ _ _ _ _ _ c.loop.invariant (omega arith)
