-- `weights_vectors::say_room` is safe: what is lent is a part of the array. Assumes nothing.
use mathlib.Core.Path.{sym}
use native.Mathlib.Omega.{arith}
use lib.Seq.{length-take-le}
use Rattle.weights_vectors.proofs.say_room.Goals as goal

pub slice_bounds-weigh-end : goal.slice_bounds-weigh-end
slice_bounds-weigh-end c = sym (length-take-le _ _ (omega arith))
