-- The lines of a list of bytes: "a line ends before a newline (0x0A) or at the end of the bytes; what follows the last newline is a line only where it is not empty". Definitions only.
--     newline       the byte that ends a line
--     Line          a line: its bytes, and how many it takes with its newline
--     longer b ls   the lines ls, the first of them with the byte b before it; a line of its own where there is none
--     lines_of s     the lines of s
--     NoNewline s from end   no byte of s from an offset on, up to end, is a newline
--     LineAt s at r   what `line_at` answers r for the bytes s: the line from an offset on, and where the lines behind it begin
--     Assumes nothing.
use Rattle.std.specs.Prelude.{ℕ, suc, ◌-◌, ◌≤◌, ◌<◌, ◌≡◌, cond, List, [], ◌∷◌, eqb, length, drop, get_or}
use Rattle.fields.specs.Part.{part}
use Rattle.lines.specs.declared.next_line.LineEnd.{LineEnd}

abbrev pub newline : ℕ
newline = 10

pub record Line : Type 0 where
  pub text : List ℕ
  pub size : ℕ

abbrev pub line : List ℕ → ℕ → Line
line t n = record { text = t; size = n }

abbrev pub longer : ℕ → List Line → List Line
longer b [] = line (b ∷ []) 1 ∷ []
longer b (l ∷ ls) = line (b ∷ l.text) (suc l.size) ∷ ls

unfoldable pub lines_of : List ℕ → List Line
lines_of [] = []
lines_of (b ∷ bs) = cond (eqb b newline) (line [] 1 ∷ lines_of bs) (longer b (lines_of bs))

pub record NoNewline (s : List ℕ) (from end : ℕ) : Type 0 where
  pub other : (i : ℕ) → from ≤ i → i < end → get_or s i 0 ≡ newline → ⊥

pub record LineAt (s : List ℕ) (at : ℕ) (r : LineEnd) : Type 0 where
  pub first : lines_of (drop at s) ≡ line (part s at (r.end - at)) (r.next - at) ∷ lines_of (drop r.next s)
  pub from : at ≤ r.end
  pub inside : r.end ≤ length s
  pub further : at < r.next
  pub within : r.next ≤ length s
