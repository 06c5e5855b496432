-- `worn::worn_character` meets its contract, by what the line's check answers. Assumes nothing.
use Rattle.std.proofs.lemmas.Result.{err_from_is_err_and}
use Rattle.worn.proofs.AnswerLaws.{refused, answered}
use Rattle.worn.proofs.worn_character.Goals as goal

pub returns-in_err-check_line : goal.returns-in_err-check_line
returns-in_err-check_line c =
    let p = err_from_is_err_and c.from_residual.result c.from_residual.ensures.1 in
    let a = refused c.args.line.now c.args.out.now c.in_err-check_line.ensures.is in
    rw (p.1, p.2) (record { answer = a.0; after = a.1 })

pub returns : goal.returns
returns c =
    let told = c.answer_line.ensures in
    let a = answered c.args.line.now c.args.out.now _ c.in_ok-check_line.ensures.is (told.answer, told.after) in
    record { answer = a.0; after = a.1 }
