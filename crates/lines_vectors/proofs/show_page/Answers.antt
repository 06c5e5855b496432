-- `lines_vectors::show_page` is safe: what is shown is a part of the output. Assumes nothing.
use mathlib.Core.Path.{sym}
use native.Mathlib.Omega.{arith}
use lib.Seq.{length-take-le}
use Rattle.lines_vectors.proofs.show_page.Goals as goal

pub slice_bounds-show_bytes-end : goal.slice_bounds-show_bytes-end
slice_bounds-show_bytes-end c = sym (length-take-le _ _ (omega arith))
