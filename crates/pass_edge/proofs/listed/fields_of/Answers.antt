-- `pass_edge::listed::fields_of` meets its contract field by field. Assumes nothing.
use mathlib.Core.Path.{◌∙◌}
use Rattle.edge.specs.Write.{fields_of}
use Rattle.pass_edge.specs.Fields.{stored_fields}
use Rattle.pass_edge.proofs.listed.FieldLaws.{listed_not_nan}
use Rattle.pass_edge.proofs.listed.fields_of.Goals as goal

pub listed_value-requires : goal.listed_value-requires
listed_value-requires c = ((c.requires.digits, c.requires.value), c.requires.few)

pub num_fields-requires : goal.num_fields-requires
num_fields-requires c = (listed_not_nan c.requires c.listed_value.ensures, c.requires.mult)

pub returns : goal.returns
unfolding stored_fields fields_of
returns c = c.num_fields.ensures ∙ rw (c.map_of.ensures, c.is_some.ensures, c.parts-numerator.ensures, c.listed_value.ensures, c.part_or-script.ensures, c.part_or-value_s.ensures, c.is_row.ensures)
