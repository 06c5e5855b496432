-- `lattice::ends::empty` meets its contract: the count and the heads are 0, and what stands from END on is as it was. Assumes nothing.
use mathlib.Core.Path.{refl}
use Rattle.lattice.proofs.ends.EmptyLaws.{cleared_frame, all_cleared}
use Rattle.lattice.proofs.ends.empty.Goals as goal

pub returns : goal.returns
returns c =
    let zeros = c.fill.ensures.after (λ y e. e) in
    (cleared_frame _ _ _ _ _ c.requires c.put_u16.ensures refl zeros refl, all_cleared _ _ _ _ _ c.requires c.put_u16.ensures refl zeros refl)
