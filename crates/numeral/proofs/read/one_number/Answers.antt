-- `numeral::read::one_number` meets its contract: too many bytes, a value, or none. Assumes nothing.
use native.Mathlib.Omega.{arith}
use Rattle.numeral.proofs.FieldLaws.{too_many_bytes, a_value, no_value}
use Rattle.numeral.proofs.read.one_number.Goals as goal

pub returns-then-line : goal.returns-then-line
returns-then-line c = too_many_bytes _ (omega (arith, c.if-line.true)) c.no_number.ensures

pub returns-in-Some : goal.returns-in-Some
returns-in-Some c = a_value _ (omega (arith, c.if-line.false)) c.numeral-value.ensures _ c.in-Some.is c.answer.ensures

pub returns-in-None : goal.returns-in-None
returns-in-None c = no_value _ c.numeral-value.ensures c.in-None.is c.no_number-in-None.ensures
