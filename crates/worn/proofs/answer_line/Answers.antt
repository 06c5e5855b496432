-- `worn::answer_line` meets its contract: the rows of a line with one □, or no such line. Assumes nothing.
use mathlib.Core.Path.{refl, ◌∙◌}
use native.Mathlib.Omega.{arith}
use Rattle.std.proofs.lemmas.Result.{err_from_is_err_and}
use Rattle.worn.proofs.AnswerLaws.{no_mark_answer, rows_answer}
use Rattle.worn.proofs.answer_line.Goals as goal

pub returns-in_err-at : goal.returns-in_err-at
returns-in_err-at c =
    let a = no_mark_answer c.args.line.now c.args.out.now c.requires.0 (rw c.in_err-at.ensures.ok_part at c.find_mark.ensures) in
    let p = err_from_is_err_and c.from_residual.result c.from_residual.ensures.1 in
    rw (p.1, p.2) (record { answer = let e = rw c.in_err-at.ensures.ok_part at c.in_err-at.ensures.value in e ∙ a.0; after = refl })

pub returns : goal.returns
returns c =
    let w = rw c.in_ok-at.ensures.ok_part at c.find_mark.ensures in
    let a = rows_answer c.args.line.now c.args.out.now w (c.rows_of-end.ensures.put w) (omega (arith, c.rows_of-end.ensures.short)) c.answer_rows.ensures in
    record { answer = a.0; after = a.1 }
