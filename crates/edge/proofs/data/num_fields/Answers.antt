-- `edge::data::num_fields` meets its contract field by field. Assumes nothing.
use Rattle.edge.specs.Write.{fields_of}
use mathlib.Core.Path.{refl}
use Rattle.edge.proofs.data.num_fields.Goals as goal

pub returns : goal.returns
unfolding fields_of
returns c = refl
