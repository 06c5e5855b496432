-- `lattice::offset_at` meets its contract: the offset stands in the edge's cell. Assumes nothing.
use mathlib.Core.Path.{◌∙◌}
use native.Mathlib.Omega.{arith}
use Rattle.lattice.specs.Kept.{Kept}
use Rattle.lattice.proofs.HoldsLaws.{kept_of_lem}
use Rattle.lattice.proofs.offset_at.Goals as goal

pub overflow_mul-i : goal.overflow_mul-i
overflow_mul-i c =
    let kept : Kept c.args.work.now c.args.lattice.count c.args.lattice.len c.requires.0.0 = kept_of_lem c.requires.0.1 c.requires.1 in
    let f = kept.few in let i = c.requires.2 in omega arith

pub overflow_add-i : goal.overflow_add-i
overflow_add-i c =
    let kept : Kept c.args.work.now c.args.lattice.count c.args.lattice.len c.requires.0.0 = kept_of_lem c.requires.0.1 c.requires.1 in
    let f = kept.few in let i = c.requires.2 in omega arith

pub u16_at-requires : goal.u16_at-requires
u16_at-requires c =
    let kept : Kept c.args.work.now c.args.lattice.count c.args.lattice.len c.requires.0.0 = kept_of_lem c.requires.0.1 c.requires.1 in
    let k = kept in let f = k.few in let r = k.room in let i = c.requires.2 in omega arith

pub returns : goal.returns
returns c = λ es q. c.u16_at.ensures ∙ (kept_of_lem q c.requires.1).offsets _ c.requires.2
