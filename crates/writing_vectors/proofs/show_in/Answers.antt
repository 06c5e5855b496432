-- `writing_vectors::show_in` is safe: what is shown is a part of the output. Assumes nothing.
use mathlib.Core.Path.{sym}
use native.Mathlib.Omega.{arith}
use lib.Seq.{length-take-le}
use Rattle.writing.proofs.AnswerLaws.{stored_fits}
use Rattle.writing_vectors.proofs.show_in.Goals as goal

pub slice_bounds-write_all-end-in-Ok : goal.slice_bounds-write_all-end-in-Ok
slice_bounds-write_all-end-in-Ok c =
    let a = c.args in
    let h = stored_fits a.n a.out.now _ _ c.in-Ok.is (c.write_number.ensures.answer, c.write_number.ensures.after) in
    omega arith

pub slice_bounds-write_all-end-in-Ok-2 : goal.slice_bounds-write_all-end-in-Ok-2
slice_bounds-write_all-end-in-Ok-2 c =
    let a = c.args in
    let h = stored_fits a.n a.out.now _ _ c.in-Ok.is (c.write_number.ensures.answer, c.write_number.ensures.after) in
    sym (length-take-le _ _ (omega arith))
