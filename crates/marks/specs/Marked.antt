-- Which edges set a mark, and at which place. Definitions only.
--     digit_ends e     the txt of e ends with a digit; ending e: its mark is at its end
--     one_place e      e is numeric and one place long; starting e: its mark is at its start
--     mark_of test place e   the place of the mark of e, if it meets the test
--     asks a e        the edge e sets a mark, by what is asked
--     place_by a e     the place of its mark
--     Asks post test place w   what a function answers at the offset of each edge in w is the place of its mark, which is not behind its end
--     Assumes nothing.
use Rattle.std.specs.Prelude.{ℕ, suc, ◌≡◌, ◌≤◌, ◌<◌, Bool, ◌&&◌, List, eqb, Option}
use Rattle.std.specs.Bool.{then_some}
use Rattle.digits.specs.TextEnds.{ends_with_digit}
use Rattle.edge.specs.Edge.{Edge}
use Rattle.edge.specs.Layout.{edge_at}
use Rattle.paths.specs.Reading.{Spanned}
use Rattle.numbers.specs.Fractions.{is_numeric}
use Rattle.marks.specs.declared.Asked.{Asked}
use Rattle.marks.specs.declared.Asked.TheVariants.{DigitEnds, OnePlace}

abbrev pub digit_ends : Edge → Bool
digit_ends e = ends_with_digit e.txt

abbrev pub ending : Edge → ℕ
ending e = e.end

unfoldable pub one_place : Edge → Bool
one_place e = is_numeric e && eqb e.end (suc e.start)

abbrev pub starting : Edge → ℕ
starting e = e.start

abbrev pub mark_of : (Edge → Bool) → (Edge → ℕ) → Edge → Option ℕ
mark_of test place e = then_some (test e) (place e)

abbrev pub asks : Asked → Edge → Bool
asks DigitEnds e = digit_ends e
asks OnePlace e = one_place e

abbrev pub place_by : Asked → Edge → ℕ
place_by DigitEnds e = ending e
place_by OnePlace e = starting e

pub record Asks (post : ℕ → Option ℕ → Type 0) (test : Edge → Bool) (place : Edge → ℕ) (w : List ℕ) : Type 0 where
  pub answers : (at : ℕ) (r : Option ℕ) → Spanned 256 w at → post at r → r ≡ mark_of test place (edge_at w at)
  pub inside : (e : Edge) → e.start < e.end → place e ≤ e.end
