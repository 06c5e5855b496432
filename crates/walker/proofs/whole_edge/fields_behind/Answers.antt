-- `walker::whole_edge::fields_behind` meets its contract, by bit 0 of the map. Assumes nothing.
use mathlib.Core.Path.{sym, ◌∙◌}
use Rattle.walker.proofs.whole_edge.EdgeLaws.{numeric_behind, regular_behind}
use Rattle.walker.proofs.whole_edge.fields_behind.Goals as goal

pub fields_at-requires : goal.fields_at-requires
fields_at-requires c = c.requires (sym c.bit.ensures ∙ c.if-bit.true)

pub returns-then-bit : goal.returns-then-bit
returns-then-bit c = numeric_behind _ _ _ c.bit.ensures c.if-bit.true c.fields_at.ensures

pub returns-else-bit : goal.returns-else-bit
returns-else-bit c =
    let a = c.args in
    regular_behind a.map a.s.now a.at c.bit.ensures c.if-bit.false c.no_fields.ensures
