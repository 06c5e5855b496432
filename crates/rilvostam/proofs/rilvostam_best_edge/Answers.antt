-- `rilvostam::rilvostam_best_edge` meets its contract: its answer, told to C. Assumes nothing.
use mathlib.Core.Path.{ap, ◌∙◌}
use Rattle.answers.specs.Statuses.{answer_told}
use Rattle.rilvostam.proofs.Tells.{tells}
use Rattle.rilvostam.proofs.rilvostam_best_edge.Goals as goal

pub returns : goal.returns
returns c =
    let t = tells (c.answer_told-best.ensures ∙ ap answer_told c.best_edge.ensures) in
    record {
      status = t.0;
      place = t.1;
    }
