-- What it is for value, decimals and txt of an edge to say the same number (02, S-13). Definitions only.
--     written a b   the digits a and, where b has any, a point and the digits b
--     Says e        txt writes digits before and behind a point, as many behind as e has decimals, and the value is what they say without the point
--     number_of a b  what the digits a, a point and the digits b say, as a numerator over 10 ^ length b
--     Assumes nothing.
use Rattle.std.specs.Prelude.{ℕ, ◌+◌, ◌*◌, ◌^◌, ◌≤◌, ◌<◌, ◌≡◌, List, [], ◌∷◌, ◌++◌, length, get_or}
use Rattle.std.proofs.Math.Option.{some}
use Rattle.table.specs.Table.{Text}
use Rattle.whole.specs.Decimal.{ascii, digits_value}
use Rattle.passes.specs.DecimalPasses.{DecimalEdge, point_character}

abbrev pub written : List ℕ → List ℕ → Text
written a [] = ascii a
written a (d ∷ ds) = ascii a ++ (point_character ∷ ascii (d ∷ ds))

-- the whole part, and the decimals as a part of 10 ^ length b
abbrev pub number_of : List ℕ → List ℕ → ℕ
number_of a b = digits_value a * 10 ^ length b + digits_value b

pub record Says (e : DecimalEdge) : Type 0 where
  pub before : List ℕ
  pub behind : List ℕ
  -- "at least one digit"
  pub one_before : 0 < length before
  pub count : length behind ≡ e.decimals
  -- "A sixteenth decimal stays outside."
  pub few : e.decimals ≤ 15
  -- "txt and value_s keep the point in its place"
  pub txt : e.edge.txt ≡ written before behind
  pub value : e.edge.value ≡ some (number_of before behind)
  pub digits : (i : ℕ) → i < length (before ++ behind) → get_or (before ++ behind) i 0 ≤ 9
  -- each digit, and the point, is one place long
  pub places : e.edge.end ≡ e.edge.start + length (written before behind)
