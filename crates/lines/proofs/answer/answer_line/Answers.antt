-- `lines::answer::answer_line` meets its contract, by what the line's check answers. Assumes nothing.
use mathlib.Core.Path.{◌≡◌}
use Rattle.std.proofs.lemmas.Result.{err_from_is_err_and}
use Rattle.std.proofs.Common.{rules}
use Rattle.answers.specs.Answers.{of_line}
use Rattle.call.proofs.MapLaws.{mapped_err, mapped_ok}
use Rattle.lines.proofs.AnswerLaws.{left_refused, ready, left_chars}
use Rattle.lines.proofs.answer.answer_line.Goals as goal

pub stages_answer-requires : goal.stages_answer-requires
stages_answer-requires c = (c.requires.0, ready _ _ c.check_line.ensures.is c.args.line.now _ c.requires.1.checked (mapped_ok _ c.check_line.result _ c.in_ok-places.ensures.cases), c.requires.1.indexed)

pub returns-in_err-places : goal.returns-in_err-places
returns-in_err-places c =
    let p = err_from_is_err_and c.from_residual.result c.from_residual.ensures.1 in
    let e = mapped_err c.check_line.result _ _ c.in_err-places.ensures.cases in
    let made : c.in_err-places.field-0.0 ≡ of_line e.0 = let k = e.2 in search rules in
    rw (p.1, p.2, made) (left_refused _ _ c.check_line.ensures.is _ e.0 e.1)

pub returns : goal.returns
returns c = left_chars _ _ c.check_line.ensures.is _ c.args.shape c.requires.1.checked (mapped_ok _ c.check_line.result _ c.in_ok-places.ensures.cases) _ c.stages_answer.ensures
