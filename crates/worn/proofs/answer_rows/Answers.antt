-- `worn::answer_rows` meets its contract: an output too short, no rows, or the rows. Assumes nothing.
use native.Mathlib.Omega.{arith}
use Rattle.worn.proofs.TriedLaws.{rows_too_short, rows_nothing, rows_written}
use Rattle.worn.proofs.answer_rows.Goals as goal

pub returns-then-out-rows : goal.returns-then-out-rows
returns-then-out-rows c = let a = c.args in rows_too_short a.rows.now a.out.now (omega (arith, c.if-out-rows.true))

pub returns-then-rows-eq0 : goal.returns-then-rows-eq0
returns-then-rows-eq0 c = rows_nothing _ _ c.if-rows-eq0.true

pub returns : goal.returns
returns c = rows_written _ _ (omega arith) (omega arith) c.copy_in.ensures
