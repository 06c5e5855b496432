-- `pass_edge::listed::map_of` meets its contract: the map is the sum of what each field is worth. Assumes nothing.
use mathlib.Core.Path.{ap, ◌∙◌}
use mathlib.Core.Bool.{Bool}
use Prim.Native.Nat.{◌*◌}
use Rattle.fields.specs.Flag.{flag}
use Rattle.pass_edge.proofs.listed.FieldLaws.{map_summed}
use Rattle.pass_edge.proofs.listed.map_of.Goals as goal

pub returns : goal.returns
returns c = map_summed c.args.edge c.args.fraction c.bit_if.ensures.0 c.bit_if-2.ensures.0 c.bit_if-3.ensures.0 c.bit_if-4.ensures.0 c.bit_if-5.ensures.0 c.bit_if-6.ensures.0 (c.bit_if-7.ensures.0 ∙ ap (λ (b : Bool). 256 * flag b) c.is_row.ensures) c.bit_if-8.ensures.0
