-- `rilvostam::rilvostam_path` meets its contract: its answer, told to C. Assumes nothing.
use mathlib.Core.Path.{ap, ◌∙◌}
use Rattle.answers.specs.Statuses.{written_told}
use Rattle.rilvostam.proofs.Tells.{tells}
use Rattle.rilvostam.proofs.rilvostam_path.Goals as goal

pub returns : goal.returns
returns c =
    let e = tells (c.written_told-path.ensures ∙ ap written_told c.path.ensures.answer) in
    record {
      status = e.0;
      place = e.1;
      output = c.path.ensures.output;
    }
