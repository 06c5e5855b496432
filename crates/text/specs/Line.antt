-- A line: how it is walked, and refusals 2 and 3. Definitions only.
--     walked s p      the first characters of s, at most p: how many they are, and the offset behind them
--     max_chars        the most characters that a line may have
--     line_number s, line_place s  what 01's table says of the line s: the number of its refusal, 0 where it is accepted; the offset, or the count of characters
--     PLACES          the most places that a line may have, its end included
--     line_check s     refusal 2, then refusal 3, or the count of characters
--     line_refusal r, line_at r    01's number of an answer, 0 where the line is accepted; its offset, or the count
--     LineAnswer s r  r is the answer for the line s, and says its number and its offset or count
use Rattle.std.specs.Prelude.{ℕ, ◌≡◌, cond, List, length, take, leb, Result, Ok, Err}
use Rattle.text.specs.declared.Walked.{Walked}
use Rattle.text.specs.Text.{chars, well_formed, offset_of, ill_at}
use Rattle.text.specs.declared.LineRefusal.{LineRefusal}

abbrev pub walked : List ℕ → ℕ → Walked
walked s p = record { count = length (take p (chars s)); at = record { 0 = offset_of s p } }

abbrev pub max_chars : ℕ
max_chars = 256

-- "line not UTF-8": 2; "over 256 characters": 3
abbrev pub line_number : List ℕ → ℕ
line_number s = cond (well_formed s) (cond (leb (length (chars s)) max_chars) 0 3) 2

-- "offset of the first ill-formed sequence"; "offset of the 257th"
abbrev pub line_place : List ℕ → ℕ
line_place s = cond (well_formed s) (cond (leb (length (chars s)) max_chars) (length (chars s)) (offset_of s max_chars)) (ill_at s)

-- the places of the longest line, its end included
abbrev pub PLACES : ℕ
PLACES = 257

abbrev pub line_check : List ℕ → Result ℕ LineRefusal
line_check s =
    cond (well_formed s)
    (cond (leb (length (chars s)) max_chars) (Ok (length (chars s))) (Err (LineRefusal.TooLong (record { 0 = offset_of s max_chars }))))
    (Err (LineRefusal.IllFormed (record { 0 = ill_at s })))

abbrev pub line_refusal : Result ℕ LineRefusal → ℕ
line_refusal (Ok n) = 0
line_refusal (Err (LineRefusal.IllFormed at)) = 2
line_refusal (Err (LineRefusal.TooLong at)) = 3

abbrev pub line_at : Result ℕ LineRefusal → ℕ
line_at (Ok n) = n
line_at (Err (LineRefusal.IllFormed at)) = at.0
line_at (Err (LineRefusal.TooLong at)) = at.0

pub record LineAnswer (s : List ℕ) (r : Result ℕ LineRefusal) : Type 0 where
  pub is : r ≡ line_check s
  pub number : line_refusal r ≡ line_number s
  pub place : line_at r ≡ line_place s
