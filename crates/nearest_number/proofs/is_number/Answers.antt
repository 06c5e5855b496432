-- `nearest_number::is_number` meets its contract, by the bits 0 and 7 of the map. Assumes nothing.
use mathlib.Core.Path.{◌∙◌}
use native.Mathlib.Omega.{arith}
use Rattle.edge.specs.Layout.{string_end}
use Rattle.nearest_number.proofs.NearestLaws.{number_regular, number_numeric}
use Rattle.nearest_number.proofs.is_number.Goals as goal

pub u16_at-map-requires : goal.u16_at-map-requires
unfolding string_end
u16_at-map-requires c = omega arith

pub returns-else-bit : goal.returns-else-bit
returns-else-bit c = c.if-bit.false ∙ number_regular _ _ c.u16_at-map.ensures c.bit.ensures c.if-bit.false

pub returns-then-bit : goal.returns-then-bit
returns-then-bit c = number_numeric _ _ c.u16_at-map.ensures c.bit.ensures c.if-bit.true c.bit-then-bit.ensures
