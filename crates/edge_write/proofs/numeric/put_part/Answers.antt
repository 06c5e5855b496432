-- `edge_write::numeric::put_part` meets its contract: the part that is lent is put as a string. Assumes nothing.
use Prim.Native.Nat.{◌+◌, ◌-◌}
use mathlib.Core.Path.{◌≡◌}
use native.Mathlib.Omega.{arith}
use Rattle.fields.specs.Part.{part}
use Rattle.fields.proofs.PartLaws.{length_part}
use Rattle.edge_write.proofs.numeric.put_part.Goals as goal

pub put_text-requires : goal.put_text-requires
unfolding part
put_text-requires c =
    let size : c.args.t.at.0 + c.args.t.len - c.args.t.at.0 ≡ c.args.t.len = omega arith in
    let l = length_part c.args.s.now c.args.t.at.0 c.args.t.len c.requires.2 in
    rw (size, l) (c.requires.0, c.requires.1)

pub returns : goal.returns
unfolding part
returns c =
    let size : c.args.t.at.0 + c.args.t.len - c.args.t.at.0 ≡ c.args.t.len = omega arith in
    let l = length_part c.args.s.now c.args.t.at.0 c.args.t.len c.requires.2 in
    rw (size, l) at c.put_text.ensures
