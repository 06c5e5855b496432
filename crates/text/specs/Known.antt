-- A character that is known to stand at an offset. Definitions only.
--     Stands s at     a character stands in s at the offset at
--     char_of r        an answer of `char_at` as what stands at an offset
--     Assumes nothing.
use Rattle.std.specs.Prelude.{ℕ, ◌≡◌, List, drop}
use Rattle.text.specs.declared.Seq.{Seq}
use Rattle.text.specs.declared.Seq.TheVariants.{Char}
use Rattle.text.specs.Sequence.{seq}
use Rattle.text.specs.declared.known.Known.{Known}

pub record Stands (s : List ℕ) (at : ℕ) : Type 0 where
  pub code : ℕ
  pub len : ℕ
  pub here : seq (drop at s) ≡ Char code len

abbrev pub char_of : Known → Seq
char_of r = Char r.code r.len
