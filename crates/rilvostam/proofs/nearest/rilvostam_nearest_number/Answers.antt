-- `rilvostam::nearest::rilvostam_nearest_number` meets its contract: its answer, told to C. Assumes nothing.
use mathlib.Core.Path.{ap, ◌∙◌}
use Rattle.answers.specs.Statuses.{answer_told}
use Rattle.rilvostam.proofs.Tells.{tells}
use Rattle.rilvostam.proofs.nearest.rilvostam_nearest_number.Goals as goal

pub returns : goal.returns
returns c =
    let t = tells (c.answer_told-number.ensures ∙ ap answer_told c.nearest_number.ensures) in
    record {
      status = t.0;
      place = t.1;
    }
