-- `wide::divide` meets its contract. The loop's invariant is `Going`; the measure is the scale. Assumes nothing.
use Prim.Native.Nat.{◌+◌, ◌*◌}
use Rattle.wide.specs.Numbers.{RADIX}
use Rattle.wide.proofs.DivideLaws.{Going}
use Rattle.wide.proofs.divide.Given as goal

abbrev pub invariant-loop-scale : goal.invariant-loop-scale
invariant-loop-scale l = Going l.d (l.initial.rest * RADIX + l.initial.left) l.lower l.rest l.left l.scale

abbrev pub decreases-loop-scale : goal.decreases-loop-scale
decreases-loop-scale l = l.scale
