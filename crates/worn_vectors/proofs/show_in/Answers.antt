-- `worn_vectors::show_in` is safe: what is shown is a part of the output. Assumes nothing.
use mathlib.Core.Path.{sym}
use native.Mathlib.Omega.{arith}
use lib.Seq.{length-take-le}
use Rattle.worn.proofs.AnswerLaws.{rows_held}
use Rattle.worn_vectors.proofs.show_in.Goals as goal

pub slice_bounds-write_all-end : goal.slice_bounds-write_all-end
slice_bounds-write_all-end c =
    let a = c.args in
    let h = rows_held a.line.now a.out.now _ c.in-Ok.is (c.worn_character-answer.ensures.answer, c.worn_character-answer.ensures.after) in
    omega arith

pub slice_bounds-write_all-end-in-Ok : goal.slice_bounds-write_all-end-in-Ok
slice_bounds-write_all-end-in-Ok c =
    let a = c.args in
    let h = rows_held a.line.now a.out.now _ c.in-Ok.is (c.worn_character-answer.ensures.answer, c.worn_character-answer.ensures.after) in
    sym (length-take-le _ _ (omega arith))
