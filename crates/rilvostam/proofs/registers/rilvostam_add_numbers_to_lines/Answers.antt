-- `rilvostam::registers::rilvostam_add_numbers_to_lines` meets its contract: its answer, told to C. Assumes nothing.
use mathlib.Core.Path.{ap, ◌∙◌}
use Rattle.lines.specs.declared.told.CPage.{CPage}
use Rattle.rilvostam.proofs.registers.rilvostam_add_numbers_to_lines.Goals as goal

pub returns : goal.returns
returns c =
    let e = c.page_told-page.ensures ∙ c.add_numbers_to_lines-answer.ensures.answer in
    record {
      status = ap (λ (p : CPage). p.status) e;
      bytes = ap (λ (p : CPage). p.at) e;
      after = ap (λ (p : CPage). p.next) e;
      output = c.add_numbers_to_lines-answer.ensures.output;
    }
