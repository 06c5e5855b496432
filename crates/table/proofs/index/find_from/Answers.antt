use mathlib.Core.Path.{◌≡◌, sym, ◌∙◌}
use native.Mathlib.Omega.{arith}
use Prim.Native.Nat.{◌+◌, ◌-◌}
use Rattle.table.proofs.index.IndexLaws.{rest_none, full_stands, full_begins, turn_none, turn_found, turn_above, turn_next, ahead_all}
use Rattle.table.proofs.index.find_from.Goals as goal

pub loop-init : goal.loop-init
loop-init c = let all : c.args.from.left - 0 ≡ c.args.from.left = omega arith in rw all (ahead_all _ _ _ _ c.requires)

pub u32_at-code-requires : goal.u32_at-code-requires
u32_at-code-requires c = full_begins _ _ _ c.loop.invariant.whole.full (omega arith)

pub record_here-requires : goal.record_here-requires
record_here-requires c = full_stands _ _ _ c.loop.invariant.whole.full (omega arith)

pub returns-then-code-c : goal.returns-then-code-c
returns-then-code-c c = turn_found _ _ _ _ _ c.loop.invariant (omega arith) _ c.record_here.ensures.0 c.record_here.ensures.1 (sym c.u32_at-code.ensures ∙ c.if-code-c.true)

pub returns-then-c-code : goal.returns-then-c-code
returns-then-c-code c = turn_above _ _ _ _ _ c.loop.invariant (omega arith) (omega (arith, c.u32_at-code.ensures))

pub record_end-at-requires : goal.record_end-at-requires
record_end-at-requires c = full_stands _ _ _ c.loop.invariant.whole.full (omega arith)

pub loop-preserved : goal.loop-preserved
loop-preserved c =
    let left : c.args.from.left - (c.loop.counter + 1) ≡ c.args.from.left - c.loop.counter - 1 = omega arith in
    rw left (turn_next _ _ _ _ _ c.loop.invariant (omega arith) _ _ c.record_end-at.ensures.reads (λ e. c.if-code-c.false (c.u32_at-code.ensures ∙ e)))

pub returns : goal.returns
returns c = turn_none _ _ _ _ _ c.loop.invariant (rest_none _ _ _ (omega arith))
