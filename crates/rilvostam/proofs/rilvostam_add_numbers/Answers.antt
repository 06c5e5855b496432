-- `rilvostam::rilvostam_add_numbers` meets its contract: its answer, told to C. Assumes nothing.
use mathlib.Core.Path.{ap, ◌∙◌}
use Rattle.answers.specs.Answers.{told}
use Rattle.rilvostam.proofs.Tells.{tells}
use Rattle.rilvostam.proofs.rilvostam_add_numbers.Goals as goal

pub returns : goal.returns
returns c =
    let e = tells (c.answer_told-numbers.ensures ∙ ap told c.add_numbers.ensures.answer) in
    record {
      status = e.0;
      place = e.1;
      output = c.add_numbers.ensures.output;
    }
