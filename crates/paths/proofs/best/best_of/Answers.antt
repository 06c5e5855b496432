use Prim.Native.Nat.{◌+◌, ◌-◌}
use mathlib.Core.Path.{◌≡◌}
use native.Mathlib.Nat.{sub-zero}
use native.Mathlib.Omega.{arith}
use Rattle.paths.proofs.BestLaws.{held_start, whole_head, whole_at, held_better, held_on, held_ends}
use Rattle.paths.proofs.best.best_of.Goals.{then-top-score, else-top-score}
use Rattle.paths.proofs.best.best_of.Goals as goal

pub loop-init : goal.loop-init
loop-init c = rw (sub-zero c.args.count) (held_start _ _ _ _ _ c.requires)

pub score_at-score-requires : goal.score_at-score-requires
score_at-score-requires c = whole_head _ _ _ (omega arith) c.loop.invariant.walk.whole

pub next_at-at-requires : goal.next_at-at-requires
next_at-at-requires c = whole_at _ _ _ (omega arith) c.loop.invariant.walk.whole

pub loop-preserved : goal.loop-preserved
loop-preserved c =
    let w = c.loop.invariant in
    let one_less : c.args.count - (c.loop.counter + 1) ≡ c.args.count - c.loop.counter - 1 = omega arith in
    rw one_less
    (elim c.if-top-score.branch [
      | then-top-score a ↦ held_better w (omega arith) c.score_at-score.ensures c.next_at-at.ensures a.if-top-score.true a.top-is a.held-is
      | else-top-score a ↦ held_on w (omega arith) c.score_at-score.ensures c.next_at-at.ensures a.if-top-score.false a.top-is a.held-is
    ])

pub returns : goal.returns
returns c = held_ends c.loop.invariant (omega arith)
