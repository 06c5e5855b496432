-- `sheet::proof_sheet` meets its contract. Assumes nothing.
use native.Mathlib.Omega.{arith}
use Rattle.sheet.proofs.FillLaws.{page_answer, page_output, page_rows}
use Rattle.sheet.proofs.proof_sheet.Goals as goal

pub overflow_add-result : goal.overflow_add-result
overflow_add-result c = omega (arith, page_rows _ _ _ _ _ _ c.first_candidate-from.ensures.1 c.fill-filled.ensures)

pub returns : goal.returns
returns c =
    record {
      answer = page_answer _ _ _ _ _ _ c.first_candidate-from.ensures.1 c.fill-filled.ensures;
      after = page_output _ _ _ _ _ _ c.first_candidate-from.ensures.1 c.fill-filled.ensures;
    }
