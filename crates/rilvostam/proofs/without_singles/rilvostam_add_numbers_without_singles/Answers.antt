-- `rilvostam::without_singles::rilvostam_add_numbers_without_singles` meets its contract: its answer, told to C. Assumes nothing.
use mathlib.Core.Path.{ap, ◌∙◌}
use Rattle.answers.specs.Answers.{told}
use Rattle.rilvostam.proofs.Tells.{tells}
use Rattle.rilvostam.proofs.without_singles.rilvostam_add_numbers_without_singles.Goals as goal

pub returns : goal.returns
returns c =
    let e = tells (c.answer_told-numbers.ensures ∙ ap told c.add_numbers_without_singles-answer.ensures.answer) in
    record {
      status = e.0;
      place = e.1;
      output = c.add_numbers_without_singles-answer.ensures.output;
    }
