-- `edge::next::next_at` meets its contract, by bit 0 of the map. Assumes nothing.
use Rattle.edge.proofs.LayoutLaws.{next_numeric, next_regular}
use Rattle.edge.proofs.next.next_at.Goals as goal

pub returns-then-bit : goal.returns-then-bit
returns-then-bit c = next_numeric _ _ c.u16_or_zero-map.ensures c.string_end.ensures.0 c.string_end-fields.ensures.0 c.bit.ensures c.if-bit.true c.fields_end.ensures

pub returns-else-bit : goal.returns-else-bit
returns-else-bit c = next_regular _ _ c.u16_or_zero-map.ensures c.string_end.ensures.0 c.string_end-fields.ensures.0 c.bit.ensures c.if-bit.false
