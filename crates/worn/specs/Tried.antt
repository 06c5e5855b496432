-- What the code's functions answer on the way to the rows. Definitions only.
--     Stands b len at x y     the first len bytes of the buffer b are the characters x, three bytes, and the characters y; at is the offset of the three bytes
--     AnswersRows t s r u     for a line whose rows have the bytes t: the answer r with the output s, which is u then
--     Assumes nothing.
use Rattle.std.specs.Prelude.{ℕ, ◌+◌, ◌*◌, ◌≤◌, ◌≡◌, List, ◌++◌, length, Result}
use Rattle.grammar.specs.Plain.{Char, utf8}
use Rattle.worn.specs.Worn.{worn_bytes, finished, stored}
use Rattle.worn.specs.declared.WornRefusal.{WornRefusal}

pub record Stands (b : List ℕ) (len at : ℕ) (x y : List Char) : Type 0 where
  pub middle : List ℕ
  pub rest : List ℕ
  pub all : b ≡ utf8 x ++ (middle ++ (utf8 y ++ rest))
  pub three : length middle ≡ 3
  pub place : at ≡ 3 * length x
  pub end : len ≡ at + 3 + 3 * length y
  pub short : length x + 1 + length y ≤ 256

abbrev pub AnswersRows : List ℕ → List ℕ → Result ℕ WornRefusal → List ℕ → Type 0
AnswersRows t s r u = (rs : List (Char × ℕ)) → t ≡ worn_bytes rs → (r ≡ finished rs (length s)) × (u ≡ stored rs s r)
