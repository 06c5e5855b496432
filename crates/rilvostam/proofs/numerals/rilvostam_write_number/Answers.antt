-- `rilvostam::numerals::rilvostam_write_number` meets its contract: its answer, told to C. Assumes nothing.
use mathlib.Core.Path.{ap, ◌∙◌}
use Rattle.rilvostam.specs.Numerals.{written_told}
use Rattle.rilvostam.proofs.Tells.{tells}
use Rattle.rilvostam.proofs.numerals.rilvostam_write_number.Goals as goal

pub returns : goal.returns
returns c =
    let t = tells (c.written_told-numeral.ensures ∙ ap written_told c.write_number.ensures.answer) in
    record {
      status = t.0;
      place = t.1;
      output = c.write_number.ensures.after;
    }
