-- `edge_check::sound::fields_sound_at` meets its contract, by bit 0 of the map. Assumes nothing.
use Rattle.edge.proofs.CheckLaws.{fields_inside, numeric_tested, regular_tested}
use mathlib.Core.Path.{sym, ◌∙◌}
use Rattle.edge_check.proofs.sound.fields_sound_at.Goals as goal

pub fields_at-requires : goal.fields_at-requires
fields_at-requires c = c.requires (sym c.bit.ensures ∙ c.if-bit.true)

pub fields_sound-requires : goal.fields_sound-requires
fields_sound-requires c = rw c.fields_at.ensures (fields_inside _ _ _ _ (c.requires (sym c.bit.ensures ∙ c.if-bit.true)))

pub returns-then-bit : goal.returns-then-bit
returns-then-bit c = numeric_tested _ _ _ c.bit.ensures c.if-bit.true c.fields_at.ensures c.fields_sound.ensures

pub returns-else-bit : goal.returns-else-bit
returns-else-bit c = let a = c.args in regular_tested a.map a.s.now a.at c.bit.ensures c.if-bit.false
