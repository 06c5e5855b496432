-- `numeral::read::no_number` meets its contract, by what the line's check answers. Assumes nothing.
use Rattle.std.proofs.lemmas.Result.{err_from_is_err_and}
use Rattle.numeral.proofs.FieldLaws.{checked_no}
use Rattle.numeral.proofs.read.no_number.Goals as goal

pub returns-in_err-check_line : goal.returns-in_err-check_line
returns-in_err-check_line c = let p = err_from_is_err_and c.from_residual.result c.from_residual.ensures.1 in rw (p.1, p.2) (checked_no _ c.in_err-check_line.ensures.is)

pub returns : goal.returns
returns c = checked_no _ c.in_ok-check_line.ensures.is
