use Prim.Native.Nat.{◌+◌, ◌-◌}
use mathlib.Core.Path.{◌≡◌}
use native.Mathlib.Omega.{arith}
use Rattle.walker.proofs.steps.WalkLaws.{onward_none, onward_step, onward_stuck}
use Rattle.walker.proofs.steps.onward.Goals as goal

pub loop-init : goal.loop-init
loop-init c = let all : c.args.i - 0 ≡ c.args.i = omega arith in rw all

pub returns-then-next-at : goal.returns-then-next-at
returns-then-next-at c = onward_stuck _ _ _ c.behind-next.ensures c.if-next-at.true c.loop.invariant

pub loop-preserved : goal.loop-preserved
loop-preserved c =
    let one : c.args.i - (c.loop.counter + 1) ≡ c.args.i - c.loop.counter - 1 = omega arith in
    rw one (onward_step _ _ _ (omega arith) c.behind-next.ensures c.loop.invariant)

pub returns : goal.returns
returns c = onward_none _ _ _ (omega arith) c.loop.invariant
