-- `rilvostam::numerals::rilvostam_read_field` meets its contract: its answer, told to C. Assumes nothing.
use mathlib.Core.Path.{ap, ◌∙◌}
use Rattle.rilvostam.specs.declared.numerals.CField.{CField}
use Rattle.rilvostam.specs.Numerals.{field_told}
use Rattle.rilvostam.proofs.numerals.rilvostam_read_field.Goals as goal

pub returns : goal.returns
returns c =
    let e = c.field_told-told.ensures ∙ ap field_told c.one_number.ensures in
    record {
      status = ap (λ (t : CField). t.status) e;
      number = ap (λ (t : CField). t.number) e;
      value = ap (λ (t : CField). t.at) e;
    }
