-- Laws of the walk over a line's bytes (`specs/Marks.antt`). No contract cites this file. Assumes nothing.
use mathlib.Core.Path.{◌≡◌, sym, ◌∙◌}
use mathlib.Core.Bool.{Bool, ◌||◌, or-false, or_assoc}
use mathlib.Core.List.{List}
use Prim.Native.Nat.{ℕ, ◌+◌, ◌≤◌, ◌<◌}
use lib.ListN.{length, drop, get_or, drop_of_length-le}
use Rattle.text.proofs.SequenceLaws.{drop_at}
use Rattle.numbers.specs.Fallback.{ascii_digit}
use Rattle.fallback.specs.Marks.{any_digit}

-- what is found so far, or is among those from i on, is what the line has
module _ (line : List ℕ) (found : Bool) (i : ℕ) (so_far : found || any_digit (drop i line) ≡ any_digit line) where
  pub any_next : i < length line → (found || ascii_digit (get_or line i 0)) || any_digit (drop (i + 1) line) ≡ any_digit line
  unfolding any_digit
  any_next h = or_assoc found _ _ ∙ rw (drop_at line i h) at so_far

  pub any_end : length line ≤ i → found ≡ any_digit line
  unfolding any_digit
  any_end h = sym (or-false found) ∙ rw (drop_of_length-le line {i = i} h) at so_far
