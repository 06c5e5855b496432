-- `rilvostam::numerals::rilvostam_worn_character` meets its contract: its answer, told to C. Assumes nothing.
use mathlib.Core.Path.{ap, ◌∙◌}
use Rattle.rilvostam.specs.Numerals.{worn_told}
use Rattle.rilvostam.proofs.Tells.{tells}
use Rattle.rilvostam.proofs.numerals.rilvostam_worn_character.Goals as goal

pub returns : goal.returns
returns c =
    let t = tells (c.worn_told-rows.ensures ∙ ap worn_told c.worn_character.ensures.answer) in
    record {
      status = t.0;
      place = t.1;
      output = c.worn_character.ensures.after;
    }
