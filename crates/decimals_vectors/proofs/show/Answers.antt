-- `decimals_vectors::show` is safe: a listing is a part of the output. Assumes nothing.
use mathlib.Core.Path.{sym}
use native.Mathlib.Omega.{arith}
use lib.Seq.{length-take-le}
use Rattle.decimals_vectors.proofs.show.Goals as goal

pub slice_bounds-show_edges-end : goal.slice_bounds-show_edges-end
slice_bounds-show_edges-end c = sym (length-take-le _ _ (omega arith))
