-- A line without markers. No contract cites this file.
-- In order: tests; the texts of the lists at all places, and the marker that counts at each; the stage over a line without markers. Assumes nothing.
use mathlib.Core.Path.{◌≡◌, refl, ◌∙◌}
use mathlib.Core.Bool.{Bool, true, false, cond, not, ◌||◌, true≢false}
use mathlib.Core.List.{List, [], ◌∷◌}
use Prim.Native.Nat.{ℕ, zero, suc, ◌≤◌, ◌<◌}
use native.Mathlib.Omega.{arith}
use native.Mathlib.Decide.{dec_le}
use lib.ListN.{length}
use lib.Dec.{leb, eqb}
use borrow.Author.Tests.{ne_eqb}
use Rattle.text.specs.Text.{chars}
use Rattle.table.specs.Table.{Text, Table}
use Rattle.edge.specs.Edge.{Edge}
use Rattle.lattice.specs.Lattice.{add_all, turn_off}
use Rattle.pass_list.specs.StoredEdge.{nil, cons}
use Rattle.markers.specs.Marks.{stands_from, any_stands, marked}
use Rattle.markers.proofs.MarkLaws.{larger_le, larger_lt, Legal, legal_count, Marks}
use Rattle.numbers.specs.Fractions as numbers
use Rattle.numbers.specs.Fractions.{stands_at, larger, longest, longer, nothing, marker_at, by_marker, outcome_at, outcomes_from, new_edges, used_edges, fractions}
use Rattle.fractions.specs.AnyMarker.{is_marker, marker_from, any_marker}

-- ---- tests
or_four : (a b c d : Bool) → (a || b) || (c || d) ≡ (a || c) || (b || d)
or_four true b c d = refl
or_four false true true d = refl
or_four false true false d = refl
or_four false false c d = refl

some_larger : (a b : ℕ) → not (eqb (larger a b) 0) ≡ not (eqb a 0) || not (eqb b 0)
some_larger zero b = rw (larger_le 0 b (omega arith))
some_larger (suc a) b = rw (ne_eqb (larger (suc a) b) 0 (go (dec_le (suc a) b)), ne_eqb (suc a) 0 (λ e. omega arith))
  where
    go : Dec (suc a ≤ b) → larger (suc a) b ≡ 0 → ⊥
    go (yes h) e = omega (arith, larger_le (suc a) b h)
    go (no h) e = omega (arith, larger_lt (suc a) b (omega arith))

some_if : (b : Bool) (k : ℕ) → 0 < k → not (eqb (cond b k 0) 0) ≡ b
some_if true k h = rw (ne_eqb k 0 (λ e. omega arith))
some_if false k h = refl

is_longer : (a b : ℕ) → is_marker (longer a b) ≡ not (eqb (larger a b) 0)
is_longer a b = go (eqb (larger a b) 0) (leb b a)
  where
    go : (x y : Bool) → is_marker (cond x numbers.no_marker (cond y (numbers.percentage a) (numbers.connector b))) ≡ not x
    go true y = refl
    go false true = refl
    go false false = refl

-- ---- a marker counts at some place where a text of the lists stands at one
-- one of the texts ms stands at place p
abbrev at_place : List ℕ → ℕ → List Text → Bool
at_place w p [] = false
at_place w p (m ∷ ms) = stands_at w p m || at_place w p ms

module _ (w : List ℕ) where
  nowhere : (p : ℕ) (ms : List Text) → any_stands w p 0 ms ≡ false
  unfolding any_stands stands_from
  nowhere p [] = refl
  nowhere p (m ∷ ms) = nowhere p ms

  from_place : (p k : ℕ) (ms : List Text) → any_stands w p (suc k) ms ≡ at_place w p ms || any_stands w (suc p) k ms
  unfolding any_stands stands_from
  from_place p k [] = refl
  from_place p k (m ∷ ms) = rw (from_place p k ms) (or_four (stands_at w p m) (stands_from w (suc p) k m) (at_place w p ms) (any_stands w (suc p) k ms))

  some_longest : (p : ℕ) (ms : List Text) → Legal ms → not (eqb (longest w p ms) 0) ≡ at_place w p ms
  unfolding longest
  some_longest p [] nil = refl
  some_longest p (m ∷ ms) (cons h hs) =
      some_larger (cond (stands_at w p m) (length (chars m)) 0) (longest w p ms)
      ∙ rw (some_if (stands_at w p m) (length (chars m)) (legal_count m h), some_longest p ms hs)

  module _ (t : Table) (l : Marks t) where
    at_marker : (p : ℕ) → is_marker (marker_at t w p) ≡ at_place w p t.percentage_markers || at_place w p t.fraction_connectors
    unfolding marker_at
    at_marker p =
        is_longer (longest w p t.percentage_markers) (longest w p t.fraction_connectors)
        ∙ some_larger (longest w p t.percentage_markers) (longest w p t.fraction_connectors)
        ∙ rw (some_longest p t.percentage_markers l.percentages, some_longest p t.fraction_connectors l.connectors)

    marked_from : (p k : ℕ) → any_stands w p k t.percentage_markers || any_stands w p k t.fraction_connectors ≡ marker_from t w p k
    unfolding marker_from
    marked_from p zero = rw (nowhere p t.percentage_markers, nowhere p t.fraction_connectors)
    marked_from p (suc k) =
        rw (from_place p k t.percentage_markers, from_place p k t.fraction_connectors, at_marker p, ← marked_from (suc p) k)
        (or_four (at_place w p t.percentage_markers) (any_stands w (suc p) k t.percentage_markers) (at_place w p t.fraction_connectors) (any_stands w (suc p) k t.fraction_connectors))

    pub marked_any : marked t w ≡ any_marker t w
    marked_any = marked_from 0 (length w)

-- ---- the stage
module _ (t : Table) (w : List ℕ) (es : List Edge) where
  nothing_at : (p : ℕ) (m : numbers.Marker) {b : Bool} → is_marker m || b ≡ false → (by_marker es p m ≡ nothing) × (b ≡ false)
  nothing_at p (numbers.percentage n) e = absurd (true≢false e)
  nothing_at p (numbers.connector n) e = absurd (true≢false e)
  nothing_at p numbers.no_marker e = (refl, e)

  nothing_made : (p k : ℕ) → marker_from t w p k ≡ false → (new_edges (outcomes_from t w es p k) ≡ []) × (used_edges (outcomes_from t w es p k) ≡ [])
  unfolding marker_from outcomes_from outcome_at new_edges used_edges
  nothing_made p zero e = (refl, refl)
  nothing_made p (suc k) e = let r = nothing_at p (marker_at t w p) e in rw r.0 (nothing_made (suc p) k r.1)

  pub no_marker_stage : any_marker t w ≡ false → es ≡ fractions t w es
  unfolding fractions turn_off add_all
  no_marker_stage e = let r = nothing_made 0 (length w) e in rw (r.0, r.1)
