-- In the lattice the numeric edges one place long are those of characters and the copies that F1 made of them. No contract cites this file.
-- In order: one edge; fractions and percentages; signs; F1 and the fallback. Assumes nothing.
use mathlib.Core.Path.{◌≡◌, refl, sym, ap, ◌∙◌}
use mathlib.Core.Logic.{◌⊎◌, inl, inr}
use mathlib.Core.Bool.{Bool, true, false, cond, ◌&&◌, not, true≢false}
use mathlib.Core.List.{List, [], ◌∷◌, ◌++◌, map, Memᴰ}
use mathlib.Core.Option.{Option, none, some}
use Prim.Native.Nat.{ℕ, zero, suc, ◌+◌, ◌≤◌, ◌<◌}
use native.Mathlib.Omega.{arith}
use lib.ListN.{length}
use lib.Dec.{eqb}
use Rattle.text.specs.Text.{chars}
use Rattle.text.proofs.RowLaws.{cond_cases}
use Rattle.digits.specs.TextEnds.{first_is_digit}
use Rattle.table.specs.Table.{Text, Table}
use Rattle.passes.specs.NumEdge.{NumEdge, has}
use Rattle.passes.specs.Characters.{first_list}
use Rattle.passes.specs.Passes.{fifth_list, joined_edges}
use Rattle.edge.specs.Edge.{Edge, Numeric}
use Rattle.lattice.specs.Lattice.{same_key, inactive, turn_off}
use Rattle.paths.specs.Best.{Best, right_neighbor, left_neighbor}
use Rattle.paths.proofs.BestLaws.{OfBest}
use Rattle.pass_list.specs.StoredEdge.{Every, nil, cons}
use Rattle.numbers.specs.Listed.{listed_edge, whole_value}
use Rattle.numbers.specs.Fractions.{Marker, percentage, connector, no_marker, Outcome, made, nothing, marker_at, is_numeric, fraction_edge, otherwise, with_values, between, marked, by_marker, outcome_at, outcomes_from, new_edges, used_edges, fractions}
use Rattle.numbers.specs.Signs.{ends_at, signed, signs}
use Rattle.numbers.specs.Separators.{ends_before, apart, copy_of, copies, separate, has_fraction}
use Rattle.numbers.specs.Call.{after_passes, after_signs, lattice_by, lattice_of}
use Rattle.numbers.proofs.stages.InactiveLaws.{AsItWas, inactive_num, inactive_twice}
use Rattle.numbers.proofs.stages.CallLaws.{every_add_all, every_turn_off}
use Rattle.fractions.proofs.NewLaws.{right_holds, left_holds}
use Rattle.pass_list.proofs.in_turn.EveryLaws.{every_append, every_map}
use Rattle.singles.proofs.SilenceLaws.{Regular, numeric_data, numeric_off, key_refl, fallback_regular}
use Rattle.singles.proofs.PassPlaces.{Placed, first_placed, joined_edges_placed}

-- a given edge, as the call checks it
pub record Given (e : Edge) : Type 0 where
  pub regular : Regular e
  pub rises : e.start < e.end

-- ---- one edge
numeric_some : (e : Edge) → Regular e → is_numeric e ≡ true → ⊥
numeric_some e r h = true≢false (sym h ∙ ap numeric_data r)

-- before F1: a numeric edge one place long is a character's, perhaps inactive
abbrev pub Own : List NumEdge → Edge → Type 0
Own first e = is_numeric e ≡ true → e.end ≡ suc e.start → (x : NumEdge) × Memᴰ x first × AsItWas e (listed_edge x)

module _ (first : List NumEdge) where
  own_regular : (e : Edge) → Regular e → Own first e
  own_regular e r h o = absurd (numeric_some e r h)

  own_inactive : (e : Edge) → Own first e → Own first (inactive e)
  unfolding inactive
  own_inactive e own h o =
      let (x, m, is) = own (sym (numeric_off e) ∙ h) o in
      (x, m, go x is)
    where
      go : (x : NumEdge) → AsItWas e (listed_edge x) → AsItWas (inactive e) (listed_edge x)
      go x (inl p) = inr (ap inactive p)
      go x (inr p) = inr (ap inactive p ∙ inactive_twice (listed_edge x))

  own_listed : (x : NumEdge) → Placed first x → Own first (listed_edge x)
  unfolding listed_edge
  own_listed x p h o = (x, p.own o, inl refl)

  own_listed_all : (l : List NumEdge) → Every (Placed first) l → Every (Own first) (map listed_edge l)
  own_listed_all [] nil = nil
  own_listed_all (x ∷ l) (cons p h) = cons (own_listed x p) (own_listed_all l h)

-- ---- fractions and percentages: a new numeric edge is over two edges at least
abbrev Rising : Edge → Type 0
Rising e = e.start < e.end

module _ (first : List NumEdge) where
  abbrev MadeOwn : Outcome → Type 0
  MadeOwn (made e is) = Own first e
  MadeOwn nothing = Unit {0}

  fraction_own : (l : Edge) (lv : ℕ) (r : Edge) (rv : ℕ) → Rising l → Rising r → l.end ≤ r.start → Own first (fraction_edge l lv r rv)
  unfolding fraction_edge
  fraction_own l lv r rv a b c h o = absurd (omega arith)

  otherwise_own : (percent : Bool) (p : ℕ) (b : Best) → MadeOwn (otherwise percent p b)
  otherwise_own percent p none = tt
  otherwise_own percent p (some (i, r)) = cond_cases MadeOwn (percent && is_numeric r) (λ t. own_regular first _ refl) (λ t. tt)

  module _ (percent : Bool) (other : Outcome) (ok : MadeOwn other) where
    values_own : (i : ℕ) (l : Edge) (u : Option ℕ) (j : ℕ) (r : Edge) (v : Option ℕ) → Rising l → Rising r → l.end ≤ r.start → MadeOwn (with_values percent other i l u j r v)
    values_own i l none j r v a b c = ok
    values_own i l (some lv) j r none a b c = ok
    values_own i l (some lv) j r (some rv) a b c =
        cond_cases MadeOwn (eqb lv 100) (λ t. own_regular first _ refl)
        (λ t. cond_cases MadeOwn (not percent && not (eqb lv 0)) (λ s. fraction_own l lv r rv a b c) (λ s. ok))

    between_own : (p : ℕ) (x z : Best) → OfBest (λ y. Rising y.1 × (y.1.end ≡ p)) x → OfBest (λ y. Rising y.1 × (p ≤ y.1.start)) z → MadeOwn (between percent other x z)
    between_own p none z h g = ok
    between_own p (some l) none h g = ok
    between_own p (some (i, l)) (some (j, r)) (a, e) (b, f) = values_own i l (whole_value l) j r (whole_value r) a b (omega arith)

module _ (first : List NumEdge) (es : List Edge) (rising : Every Rising es) (p : ℕ) where
  marked_own : (percent : Bool) (k : ℕ) → MadeOwn first (marked percent es p k)
  unfolding marked
  marked_own percent k =
      between_own first percent (otherwise percent p (right_neighbor false es (p + k))) (otherwise_own first percent p (right_neighbor false es (p + k))) p (left_neighbor false es p) (right_neighbor false es (p + k)) (left_holds Rising es rising p)
      (right_holds Rising es rising p (p + k) (omega arith))

  by_marker_own : (m : Marker) → MadeOwn first (by_marker es p m)
  by_marker_own (percentage k) = marked_own true k
  by_marker_own (connector k) = marked_own false k
  by_marker_own no_marker = tt

one_new : (first : List NumEdge) (m : Outcome) (ms : List Outcome) → MadeOwn first m → Every (Own first) (new_edges ms) → Every (Own first) (new_edges (m ∷ ms))
unfolding new_edges
one_new first (made e is) ms c h = cons c h
one_new first nothing ms c h = h

new_own : (first : List NumEdge) (t : Table) (w : List ℕ) (es : List Edge) → Every Rising es → (p k : ℕ) → Every (Own first) (new_edges (outcomes_from t w es p k))
unfolding outcomes_from outcome_at new_edges
new_own first t w es c p zero = nil
new_own first t w es c p (suc k) = one_new first (outcome_at t w es p) (outcomes_from t w es (suc p) k) (by_marker_own first es c p (marker_at t w p)) (new_own first t w es c (suc p) k)

fractions_own : (first : List NumEdge) (t : Table) (w : List ℕ) (es : List Edge) → Every Rising es → Every (Own first) es → Every (Own first) (fractions t w es)
unfolding fractions
fractions_own first t w es r h =
    let ms = outcomes_from t w es 0 (length w) in
    every_add_all (turn_off es (used_edges ms)) (new_edges ms) (every_turn_off (own_inactive first) es (used_edges ms) h) (new_own first t w es r 0 (length w))

-- ---- the lattice before F1
signed_regular : (w : List ℕ) (c : ℕ) (e : NumEdge) (ms : List Text) → Every Regular (signed w c e ms)
unfolding signed
signed_regular w c e [] = nil
signed_regular w c e (m ∷ ms) = let h = signed_regular w c e ms in cond_cases (Every Regular) (ends_at w e.start m) (λ t. cons refl h) (λ t. h)

signs_regular : (t : Table) (w : List ℕ) (l : List NumEdge) → Every Regular (signs t w l)
unfolding signs
signs_regular t w [] = nil
signs_regular t w (e ∷ l) =
    every_append Regular _ _
    (cond_cases (Every Regular) (has e.value) (λ h. every_append Regular _ _ (signed_regular w 45 e t.minus_signs) (signed_regular w 43 e t.plus_signs)) (λ h. nil))
    (signs_regular t w l)

listed_rising : (first : List NumEdge) {l : List NumEdge} → Every (Placed first) l → Every Rising (map listed_edge l)
unfolding listed_edge
listed_rising first nil = nil
listed_rising first (cons p h) = cons p.rises (listed_rising first h)

module _ (t : Table) (w : List ℕ) (given : List Edge) (g : Every Given given) where
  abbrev first : List NumEdge
  first = first_list t w

  passes_placed : Every (Placed first) (first ++ joined_edges t w)
  passes_placed = every_append (Placed first) _ _ (first_placed t w) (joined_edges_placed t w)

  passes_rising : Every Rising (after_passes t w given)
  unfolding after_passes
  passes_rising = every_add_all _ _ (every_add_all [] given nil (every_map Given Rising (λ e h. h.rises) given g)) (listed_rising first passes_placed)

  passes_own : Every (Own first) (after_passes t w given)
  unfolding after_passes
  passes_own = every_add_all _ _ (every_add_all [] given nil (every_map Given (Own first) (λ e h. own_regular first e h.regular) given g)) (own_listed_all first (first ++ joined_edges t w) passes_placed)

  pub signs_own : Every (Own first) (after_signs t w given)
  unfolding after_signs
  signs_own =
      every_add_all _ _ (fractions_own first t w (after_passes t w given) passes_rising passes_own)
      (every_map Regular (Own first) (own_regular first) _ (signs_regular t w (fifth_list t w)))

-- ---- F1 and the fallback: or it is the copy of one that was apart in the lattice es before F1
abbrev pub Late : List NumEdge → List Edge → Edge → Type 0
Late first es e =
    is_numeric e ≡ true → e.end ≡ suc e.start
    → (x : NumEdge) × Memᴰ x first × ((same_key (listed_edge x) e ≡ true) ⊎ ((apart es (listed_edge x) ≡ true) × (same_key (copy_of (listed_edge x)) e ≡ true)))

inactive_key : (e : Edge) → same_key e (inactive e) ≡ true
unfolding same_key inactive
inactive_key e = key_refl e

copy_key : (e : Edge) → same_key (copy_of e) (copy_of (inactive e)) ≡ true
unfolding same_key copy_of inactive
copy_key e = rw (inactive_num has_fraction (λ (n : Numeric). refl) e) (key_refl (copy_of e))

apart_inactive : (es : List Edge) (e : Edge) → apart es (inactive e) ≡ apart es e
unfolding apart inactive
apart_inactive es e = ap (λ (b : Bool). b && (first_is_digit (chars e.txt) && ends_before es e.start)) (numeric_off e)

module _ (first : List NumEdge) (es : List Edge) where
  late_own : (e : Edge) → Own first e → Late first es e
  late_own e own h o = let (x, m, is) = own h o in (x, m, inl (go x is))
    where
      go : (x : NumEdge) → AsItWas e (listed_edge x) → same_key (listed_edge x) e ≡ true
      go x (inl p) = rw p (key_refl (listed_edge x))
      go x (inr p) = rw p (inactive_key (listed_edge x))

  late_copy : (d : Edge) → apart es d ≡ true → Own first d → Late first es (copy_of d)
  unfolding copy_of
  late_copy d a own h o = let (x, m, is) = own h o in (x, m, inr (go x is))
    where
      go : (x : NumEdge) → AsItWas d (listed_edge x) → (apart es (listed_edge x) ≡ true) × (same_key (copy_of (listed_edge x)) (copy_of d) ≡ true)
      go x (inl p) = (ap (apart es) (sym p) ∙ a, ap (λ (e : Edge). same_key (copy_of (listed_edge x)) (copy_of e)) p ∙ key_refl (copy_of (listed_edge x)))
      go x (inr p) = (
        sym (apart_inactive es (listed_edge x)) ∙ ap (apart es) (sym p) ∙ a,
        ap (λ (e : Edge). same_key (copy_of (listed_edge x)) (copy_of e)) p ∙ copy_key (listed_edge x),
      )

  late_copies : {ds : List Edge} → Every (Own first) ds → Every (Late first es) (copies es ds)
  unfolding copies
  late_copies nil = nil
  late_copies (cons {x = d} p h) = let k = late_copies h in cond_cases (Every (Late first es)) (apart es d) (λ a. cons (late_copy d a p) k) (λ a. k)

  late_originals : {ds : List Edge} → Every (Own first) ds → Every (Late first es) (map (λ (e : Edge). cond (apart es e) (inactive e) e) ds)
  late_originals nil = nil
  late_originals (cons {x = d} p h) = cons (late_own _ (cond_cases (Own first) (apart es d) (λ a. own_inactive first d p) (λ a. p))) (late_originals h)

module _ (t : Table) (w : List ℕ) (given : List Edge) (g : Every Given given) where
  pub separated_late : Every (Late (first_list t w) (after_signs t w given)) (separate (after_signs t w given))
  unfolding separate
  separated_late =
      let es = after_signs t w given in
      let own = signs_own t w given g in
      every_add_all _ _ (late_originals (first_list t w) es own) (late_copies (first_list t w) es own)

  pub lattice_late : Every (Late (first_list t w) (after_signs t w given)) (lattice_of t w given)
  unfolding lattice_by
  lattice_late =
      let es = after_signs t w given in
      every_add_all _ _ separated_late
      (every_map Regular _ (λ e r. late_own (first_list t w) es e (own_regular (first_list t w) e r)) _ (fallback_regular (separate es) 0 w))
