-- `rilvostam::numerals::rilvostam_weights` meets its contract: its answer, told to C. Assumes nothing.
use mathlib.Core.Path.{ap, ◌∙◌}
use Rattle.rilvostam.specs.Numerals.{weights_told}
use Rattle.rilvostam.proofs.Tells.{tells}
use Rattle.rilvostam.proofs.numerals.rilvostam_weights.Goals as goal

pub returns : goal.returns
returns c =
    let t = tells (c.weights_told-answer.ensures ∙ ap weights_told c.weigh_digits.ensures.answer) in
    record {
      status = t.0;
      count = t.1;
      output = c.weigh_digits.ensures.after;
    }
