-- `stride_of` meets its contract.
use mathlib.Core.Path.{refl}
use Rattle.table.specs.Index.{stride_of}
use Rattle.table.proofs.index.stride_of.Goals as goal

pub returns : goal.returns
unfolding stride_of
returns c = refl
