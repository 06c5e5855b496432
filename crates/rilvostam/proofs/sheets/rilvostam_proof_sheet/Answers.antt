-- `rilvostam::sheets::rilvostam_proof_sheet` meets its contract: its answer, told to C. Assumes nothing.
use mathlib.Core.Path.{refl, ap}
use Rattle.sheet.specs.declared.Page.{Page}
use Rattle.rilvostam.proofs.sheets.rilvostam_proof_sheet.Goals as goal

pub returns : goal.returns
returns c =
    record {
      status = refl;
      bytes = ap (λ (p : Page). p.bytes) c.proof_sheet-page.ensures.answer;
      after = ap (λ (p : Page). p.next) c.proof_sheet-page.ensures.answer;
      output = c.proof_sheet-page.ensures.after;
    }
