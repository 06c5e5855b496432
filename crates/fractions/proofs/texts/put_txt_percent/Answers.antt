-- `fractions::texts::put_txt_percent` meets its contract: the text is copied, and a byte behind it. Assumes nothing.
use native.Mathlib.Omega.{arith}
use mathlib.Core.Path.{◌≡◌, refl, sym, ◌∙◌}
use Prim.Native.Nat.{◌+◌, ◌-◌}
use lib.Seq.{sets}
use Rattle.fields.specs.Part.{part, part_of}
use Rattle.fields.proofs.PartLaws.{length_part}
use Rattle.fractions.proofs.texts.TextLaws.{text_byte}
use Rattle.fractions.proofs.texts.put_txt_percent.Goals as goal

pub returns : goal.returns
unfolding part
returns c =
    let copied : c.copy_in.new.out ≡ sets c.args.buf.now 0 (part_of c.args.work.now c.args.txt) =
    let e : c.args.txt.at.0 + c.args.txt.len - c.args.txt.at.0 ≡ c.args.txt.len = omega arith in
    c.copy_in.ensures ∙ rw e in
    let n = length_part c.args.work.now c.args.txt.at.0 c.args.txt.len c.requires.0 in
    text_byte c.args.buf.now (part c.args.work.now c.args.txt.at.0 c.args.txt.len) 37 copied (sym n) refl (omega arith) (omega arith)
