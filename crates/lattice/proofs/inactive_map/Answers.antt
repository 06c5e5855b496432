-- `lattice::inactive_map` meets its contract: where the bit of 128 stands, the map is at least 128. Assumes nothing.
use mathlib.Core.Path.{sym, ◌∙◌}
use native.Mathlib.Omega.{arith}
use borrow.Author.Tests.{eqb-true}
use Prim.Native.Nat.{◌/◌, ◌%◌}
use Rattle.lattice.proofs.TurnOffLaws.{map_on, map_off}
use Rattle.lattice.proofs.inactive_map.Goals as goal

pub overflow_sub-result : goal.overflow_sub-result
overflow_sub-result c = let m = c.args.map in omega (arith, eqb-true (m / 128 % 2) 1 (sym c.bit.ensures ∙ c.if-bit.true))

pub returns-then-bit : goal.returns-then-bit
returns-then-bit c = map_on _ (sym c.bit.ensures ∙ c.if-bit.true)

pub returns-else-bit : goal.returns-else-bit
returns-else-bit c = map_off _ (sym c.bit.ensures ∙ c.if-bit.false)
