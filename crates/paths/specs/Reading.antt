-- The calls that read a finished listing: their checks, 2, 3, 6, then 9, and their answers (01, "The rest of the call"). Definitions only.
--     number r, place r      01's number of a refusal, and the place or offset returned
--     of_line r              refusals 2 and 3 of a line
--     read_check line s       the checks 2, 3 and 6: characters of the line and edges of the listing s, or the refusal
--     Spans n k s at         the k edges from an offset on are within s, their spans are places of a line of n characters, and their numeric data may stand
--     readable ..            an answer, where these checks refuse nothing
--     inside n q             what q asks is within a line of n characters, and does not start after its end: check 9
--     answer line s q skip   best edge, right neighbour or left neighbour: its offset, none, or the refusal
-- Assumes nothing.
use Rattle.std.specs.Prelude.{ℕ, zero, suc, ◌≤◌, ◌<◌, ◌≡◌, Bool, true, false, cond, ◌&&◌, List, length, leb, Option, Result, Ok, Err}
use Rattle.text.specs.Line.{line_check, line_refusal, line_at}
use Rattle.edge.specs.Check.{each, sound_numeric, check_listing, listing_refusal, listing_place}
use Rattle.edge.specs.Layout.{edge_at, next_at}
use Rattle.paths.specs.declared.Query.{Query}
use Rattle.paths.specs.declared.Query.TheVariants.{Span, Right, Left}
use Rattle.paths.specs.declared.ReadRefusal.{ReadRefusal}
use Rattle.paths.specs.declared.ReadRefusal.TheVariants.{NotUtf8, OverLong, BadListing, ShortOutput, BadPlace}
use Rattle.paths.specs.Best.{best, with_offsets, found}
use Rattle.text.specs.declared.LineRefusal.{LineRefusal}
use Rattle.text.specs.declared.Offset.{Offset}

abbrev pub number : ReadRefusal → ℕ
number (NotUtf8 at) = line_refusal (Err (LineRefusal.IllFormed at))
number (OverLong at) = line_refusal (Err (LineRefusal.TooLong at))
number (BadListing at) = listing_refusal (Err at)
number ShortOutput = 8
number BadPlace = 9

abbrev pub place : ReadRefusal → ℕ
place (NotUtf8 at) = line_at (Err (LineRefusal.IllFormed at))
place (OverLong at) = line_at (Err (LineRefusal.TooLong at))
place (BadListing at) = listing_place (Err at)
place ShortOutput = 0
place BadPlace = 0

abbrev pub of_line : LineRefusal → ReadRefusal
of_line (LineRefusal.IllFormed at) = NotUtf8 at
of_line (LineRefusal.TooLong at) = OverLong at

abbrev pub after_listing : ℕ → Result ℕ Offset → Result (ℕ × ℕ) ReadRefusal
after_listing n (Ok k) = Ok (n, k)
after_listing n (Err at) = Err (BadListing at)

abbrev pub after_line : Result ℕ LineRefusal → List ℕ → Result (ℕ × ℕ) ReadRefusal
after_line (Ok n) s = after_listing n (check_listing false n s)
after_line (Err r) s = Err (of_line r)

unfoldable pub read_check : List ℕ → List ℕ → Result (ℕ × ℕ) ReadRefusal
read_check line s = after_line (line_check line) s

-- what these checks show of an edge, and of k edges
pub record Spanned (n : ℕ) (s : List ℕ) (at : ℕ) : Type 0 where
  pub whole : next_at s at ≤ length s
  pub rises : (edge_at s at).start < (edge_at s at).end
  pub within : (edge_at s at).end ≤ n
  pub numeric : each sound_numeric (edge_at s at).num ≡ true

unfoldable pub Spans : ℕ → ℕ → List ℕ → ℕ → Type 0
Spans n zero s at = at ≤ length s
Spans n (suc k) s at = Spanned n s at × Spans n k s (next_at s at)

-- what a call answers: a refusal of these checks, or what then says of n characters and k edges
abbrev pub readable : {A : Type 0} → (ReadRefusal → A) → (ℕ → ℕ → A) → Result (ℕ × ℕ) ReadRefusal → A
readable refused then (Ok (n, k)) = then n k
readable refused then (Err r) = refused r

unfoldable pub inside : ℕ → Query → Bool
inside n (Span a z) = leb a.0 z.0 && leb z.0 n
inside n (Right p) = leb p.0 n
inside n (Left p) = leb p.0 n

abbrev pub answer_in : List ℕ → Query → Bool → ℕ → ℕ → Result (Option Offset) ReadRefusal
answer_in s q skip n k = cond (inside n q) (Ok (found (best skip q (with_offsets k s 2)))) (Err BadPlace)

unfoldable pub answer : List ℕ → List ℕ → Query → Bool → Result (Option Offset) ReadRefusal
answer line s q skip = readable Err (answer_in s q skip) (read_check line s)
