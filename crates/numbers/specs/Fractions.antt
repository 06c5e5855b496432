-- Fractions and percentages (01, "The rest of the call"). Definitions only. w is the line's code points, es the lattice.
--     stands_at w p m       the marker or sign m stands in the line at place p, wide characters counted as the ASCII that they are of
--     longest w p ms       how many characters the longest of the markers ms has that stand at place p; 0 where none does
--     Marker, marker_at     the marker that counts at a place: its kind and its length in characters
--     Outcome              what a marker leads to: a new edge, with the indices of the edges that it uses
--     outcome_at t w es p   what the marker at place p leads to
--     fractions t w es     the lattice with the used edges inactive, then the new ones added
--     Assumes nothing.
use Rattle.std.specs.Prelude.{ℕ, zero, suc, ◌+◌, Bool, true, false, cond, ◌&&◌, not, List, [], ◌∷◌, ◌++◌, length, take, drop, eqb, leb}
use Rattle.std.proofs.Math.Option.{Option, none, some}
use Rattle.text.specs.Bytes.{same}
use Rattle.text.specs.Text.{chars}
use Rattle.whole.specs.Decimal.{decimal}
use Rattle.table.specs.Table.{Text, Table}
use Rattle.passes.specs.Characters.{lowest}
use Rattle.edge.specs.Edge.{Edge, Numeric}
use Rattle.paths.specs.Best.{Best, left_neighbor, right_neighbor}
use Rattle.lattice.specs.Lattice.{add_all, turn_off}
use Rattle.edge.specs.Write.{regular}
use Rattle.numbers.specs.Listed.{whole_value}
use Rattle.numbers.specs.Folded.{folded}

-- comparing a marker or sign with the line, character by character: "U+FF01 to U+FF5E count as U+0021 to U+007E, on either side" (02, S-3)
unfoldable pub stands_at : List ℕ → ℕ → Text → Bool
stands_at w p m = same (take (length (chars m)) (drop p (folded w))) (folded (chars m))

abbrev pub larger : ℕ → ℕ → ℕ
larger a b = cond (leb a b) b a

unfoldable pub longest : List ℕ → ℕ → List Text → ℕ
longest w p [] = 0
longest w p (m ∷ ms) = larger (cond (stands_at w p m) (length (chars m)) 0) (longest w p ms)

pub data Marker : Type 0 where
  percentage : ℕ → Marker
  connector : ℕ → Marker
  no_marker : Marker

-- "at each place only the longest marker that stands there, percentages first at equal length"; no marker is empty
abbrev pub longer : ℕ → ℕ → Marker
longer p c = cond (eqb (larger p c) 0) no_marker (cond (leb c p) (percentage p) (connector c))

unfoldable pub marker_at : Table → List ℕ → ℕ → Marker
marker_at t w p = longer (longest w p t.percentage_markers) (longest w p t.fraction_connectors)

pub data Outcome : Type 0 where
  made : Edge → List ℕ → Outcome
  nothing : Outcome

-- the types "percentage" and "fraction"
abbrev pub percentage_type : Text
percentage_type = 112 ∷ 101 ∷ 114 ∷ 99 ∷ 101 ∷ 110 ∷ 116 ∷ 97 ∷ 103 ∷ 101 ∷ []

abbrev pub fraction_type : Text
fraction_type = 102 ∷ 114 ∷ 97 ∷ 99 ∷ 116 ∷ 105 ∷ 111 ∷ 110 ∷ []

abbrev pub script_of : Option Numeric → Option Text
script_of none = none
script_of (some n) = n.script

-- "right/left" for txt and orig_txt, fraction in lowest terms, no value, right script, type "fraction"; left is not 0
unfoldable pub fraction_edge : Edge → ℕ → Edge → ℕ → Edge
fraction_edge l lv r rv = record {
  start = l.start;
  end = r.end;
  type = fraction_type;
  txt = decimal rv ++ (47 ∷ decimal lv);
  num = some (record {
    orig = decimal rv ++ (47 ∷ decimal lv);
    value = none;
    fraction = some (lowest (rv, lv));
    base = none;
    mult = none;
    script = script_of r.num;
    large = false;
    active = true;
    value_s = none;
    decimals = none;
  });
}

-- "Percentages are regular, type "percentage"": from place s to z, the text x and "%"
abbrev pub percent_edge : ℕ → ℕ → Text → Edge
percent_edge s z x = regular s z percentage_type (x ++ (37 ∷ []))

abbrev pub is_numeric : Edge → Bool
is_numeric e = elim e.num [ none ↦ false | some n ↦ true ]

-- "Otherwise a percentage marker with a numeric right neighbour gives its txt and "%", from the marker on"
abbrev pub otherwise : Bool → ℕ → Best → Outcome
otherwise percent p none = nothing
otherwise percent p (some (i, r)) = cond (percent && is_numeric r) (made (percent_edge p r.end r.txt) (i ∷ [])) nothing

-- "left 100 gives txt "right%"; else a connector with left not 0 gives .."
abbrev pub both : Bool → Outcome → ℕ → Edge → ℕ → ℕ → Edge → ℕ → Outcome
both percent other i l lv j r rv =
    cond (eqb lv 100) (made (percent_edge l.start r.end (decimal rv)) (i ∷ j ∷ []))
    (cond (not percent && not (eqb lv 0)) (made (fraction_edge l lv r rv) (i ∷ j ∷ []))
    other)

-- "With whole left and right values the new edge spans all three"
abbrev pub with_values : Bool → Outcome → ℕ → Edge → Option ℕ → ℕ → Edge → Option ℕ → Outcome
with_values percent other i l none j r v = other
with_values percent other i l (some lv) j r none = other
with_values percent other i l (some lv) j r (some rv) = both percent other i l lv j r rv

abbrev pub between : Bool → Outcome → Best → Best → Outcome
between percent other none r = other
between percent other (some l) none = other
between percent other (some (i, l)) (some (j, r)) = with_values percent other i l (whole_value l) j r (whole_value r)

-- a marker of n characters at place p, by its neighbours
unfoldable pub marked : Bool → List Edge → ℕ → ℕ → Outcome
marked percent es p n =
    between percent (otherwise percent p (right_neighbor false es (p + n))) (left_neighbor false es p) (right_neighbor false es (p + n))

abbrev pub by_marker : List Edge → ℕ → Marker → Outcome
by_marker es p (percentage n) = marked true es p n
by_marker es p (connector n) = marked false es p n
by_marker es p no_marker = nothing

unfoldable pub outcome_at : Table → List ℕ → List Edge → ℕ → Outcome
outcome_at t w es p = by_marker es p (marker_at t w p)

-- what the k places from p on lead to
unfoldable pub outcomes_from : Table → List ℕ → List Edge → ℕ → ℕ → List Outcome
outcomes_from t w es p zero = []
outcomes_from t w es p (suc k) = outcome_at t w es p ∷ outcomes_from t w es (suc p) k

unfoldable pub new_edges : List Outcome → List Edge
new_edges [] = []
new_edges (made e is ∷ ms) = e ∷ new_edges ms
new_edges (nothing ∷ ms) = new_edges ms

unfoldable pub used_edges : List Outcome → List ℕ
used_edges [] = []
used_edges (made e is ∷ ms) = is ++ used_edges ms
used_edges (nothing ∷ ms) = used_edges ms

-- "Used edges turn inactive after the last place, then the new ones are added."
unfoldable pub fractions : Table → List ℕ → List Edge → List Edge
fractions t w es =
    let ms = outcomes_from t w es 0 (length w) in
    add_all (turn_off es (used_edges ms)) (new_edges ms)
