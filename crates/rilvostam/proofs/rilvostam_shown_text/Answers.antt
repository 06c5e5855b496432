-- `rilvostam::rilvostam_shown_text` meets its contract: its answer, told to C. Assumes nothing.
use mathlib.Core.Path.{ap, ◌∙◌}
use Rattle.answers.specs.declared.reading.CText.{CText}
use Rattle.answers.specs.Statuses.{shown_told}
use Rattle.rilvostam.proofs.rilvostam_shown_text.Goals as goal

pub returns : goal.returns
returns c =
    let e = c.shown_told-text.ensures ∙ ap shown_told c.shown_text.ensures in
    record {
      status = ap (λ (t : CText). t.status) e;
      place = ap (λ (t : CText). t.at) e;
      len = ap (λ (t : CText). t.len) e;
      within = ap (λ (t : CText). t.in_listing) e;
    }
