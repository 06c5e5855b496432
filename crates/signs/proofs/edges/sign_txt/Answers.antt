-- `signs::edges::sign_txt` meets its contract. Assumes nothing.
use mathlib.Core.Path.{◌∙◌}
use Prim.Native.Nat.{ℕ, ◌-◌, ◌≤◌}
use native.Mathlib.Omega.{arith}
use lib.ListN.{length, set, length-set}
use borrow.Rule.Slice.PartMut.{same_len_mid}
use Rattle.text.specs.Text.{chars}
use Rattle.pass_edge.proofs.TextLaws.{txt_short}
use Rattle.signs.proofs.edges.BufferLaws.{behind_length, begins_txt}
use Rattle.signs.proofs.edges.sign_txt.Goals as goal

pub slice_bounds-txt_of-count : goal.slice_bounds-txt_of-count
slice_bounds-txt_of-count c = omega (arith, length-set c.args.buf.now 0 c.args.sign, c.requires.3)

pub slice_bounds-txt_of-start : goal.slice_bounds-txt_of-start
slice_bounds-txt_of-start c = omega (arith, length-set c.args.buf.now 0 c.args.sign, c.requires.3)

pub txt_of-n-requires : goal.txt_of-n-requires
txt_of-n-requires c =
    let n = length-set c.args.buf.now 0 c.args.sign in
    (c.requires.0, c.requires.1, c.requires.2, omega (arith, n, c.requires.3, behind_length 1 (set c.args.buf.now 0 c.args.sign)))

pub overflow_add-result : goal.overflow_add-result
overflow_add-result c =
    let small : c.txt_of-n.result ≤ 256 =
    let p = c.requires.1 in
    omega (arith, (c.txt_of-n.ensures p.0 p.1.is).long, txt_short (chars c.args.line.now) c.args.table.now p.0 p.1.sound c.requires.2) in
    omega (arith, small)

pub shape_of-buf : goal.shape_of-buf
shape_of-buf c = let a = c.args in same_len_mid {X = ℕ} 1 (length (set a.buf.now 0 a.sign) - 1) (set a.buf.now 0 a.sign) c.txt_of-n.new.buf c.txt_of-n.auto.buf ∙ length-set a.buf.now 0 a.sign

pub returns : goal.returns
returns c =
    let small : c.txt_of-n.result ≤ 256 =
    let p = c.requires.1 in
    omega (arith, (c.txt_of-n.ensures p.0 p.1.is).long, txt_short (chars c.args.line.now) c.args.table.now p.0 p.1.sound c.requires.2) in
    λ i e. begins_txt c.args.buf.now c.args.sign c.requires.3 small (c.txt_of-n.ensures i e)
