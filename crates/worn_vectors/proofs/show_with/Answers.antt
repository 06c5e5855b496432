-- `worn_vectors::show_with` is safe: what is lent is a part of the array. Assumes nothing.
use mathlib.Core.Path.{sym}
use native.Mathlib.Omega.{arith}
use lib.Seq.{length-take-le}
use Rattle.worn_vectors.proofs.show_with.Goals as goal

pub slice_bounds-show_in-end : goal.slice_bounds-show_in-end
slice_bounds-show_in-end c = sym (length-take-le _ _ (omega arith))
