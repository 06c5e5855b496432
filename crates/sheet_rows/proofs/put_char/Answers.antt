-- `sheet_rows::put_char` meets its contract: the character's three bytes are a part of all characters' text. Assumes nothing.
use Prim.Native.Nat.{◌+◌, ◌*◌, ◌-◌}
use native.Mathlib.Omega.{arith}
use Rattle.text.specs.Sequence.{encode}
use Rattle.text.specs.Text.{encodes}
use Rattle.grammar.specs.Plain.{utf8}
use Rattle.sheet_rows.proofs.CodeLaws.{char_put}
use Rattle.sheet_rows.proofs.put_char.Goals as goal

pub returns : goal.returns
unfolding utf8 encodes encode
returns c = char_put _ _ c.args.rank (3 * c.args.rank + 3 - 3 * c.args.rank) c.requires.1 c.copy_in.ensures (omega arith)
