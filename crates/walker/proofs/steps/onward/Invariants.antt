-- `walker::steps::onward` meets its contract. The loop's invariant: the steps that are left lead from the offset to where all of them lead from the front.
-- Assumes nothing.
use Prim.Native.Nat.{◌-◌}
use mathlib.Core.Path.{◌≡◌}
use Rattle.walker.specs.Walk.{onward}
use Rattle.walker.proofs.steps.onward.Given as goal

abbrev pub invariant-loop : goal.invariant-loop
invariant-loop l = onward (l.i - l.counter) l.listing l.at ≡ onward l.i l.listing 2
