-- Laws of the decision at one place (`specs/Decision.antt`). No contract cites this file.
-- In order: the indices that the tables keep; what is made; that the choice may stand; the steps of the code; both of a marker. Assumes nothing.
use mathlib.Core.Path.{◌≡◌, refl, sym, ap, ◌∙◌}
use mathlib.Core.Bool.{Bool, true, false, cond, ◌&&◌, not}
use mathlib.Core.List.{List, [], ◌∷◌}
use mathlib.Core.Option.{Option, none, some}
use Prim.Native.Nat.{ℕ, zero, suc, ◌+◌, ◌-◌, ◌≤◌, ◌<◌}
use native.Mathlib.Omega.{arith}
use lib.ListN.{length, get_or}
use lib.Dec.{eqb}
use borrow.Author.Tests.{eqb-false, not-true, not-false}
use Rattle.text.proofs.RowLaws.{cond_cases, and-true}
use Rattle.whole.specs.Decimal.{decimal}
use Rattle.edge.specs.Edge.{Edge}
use Rattle.lattice.specs.Kept.{no_edge}
use Rattle.paths.specs.Best.{numbered, left_neighbor, right_neighbor}
use Rattle.paths.proofs.BestLaws.{Each, OfBest, best_holds}
use Rattle.numbers.specs.Listed.{whole_value}
use Rattle.numbers.specs.Fractions.{Outcome, made, nothing, is_numeric, percent_edge, fraction_edge, otherwise, both, with_values, between, marked}
use Rattle.fraction_choices.specs.declared.decision.Form.TheVariants.{Percent, Fraction, TxtPercent}
use Rattle.fraction_choices.specs.declared.decision.Choice.{Choice}
use Rattle.fraction_choices.specs.Choice.{outcome_of, Two, Valid}
use Rattle.fraction_choices.specs.Around.{side_of, kept_of, Neighbors}
use Rattle.fraction_choices.specs.Decision.{choice, no_choice, otherwise_of, both_of, with_values_of, between_of}
use Rattle.std.specs.Prelude as std

-- ---- the indices that the tables keep
Below : ℕ → ℕ × Edge → Type 0
Below n x = x.0 < n

numbered_below : (n j : ℕ) (es : List Edge) → j + length es ≤ n → Each (Below n) (numbered j es)
unfolding numbered Below
numbered_below n j [] h = tt
numbered_below n j (e ∷ es) h = (omega arith, numbered_below n (suc j) es (omega arith))

pub kept_below : (right : Bool) (es : List Edge) (table : List ℕ) → Neighbors right es table → (p : ℕ) → p ≤ 256 → get_or table p 0 ≤ length es
unfolding Below
kept_below right es table t p h =
    by_number_lem (get_or table p 0) (rw (t.at p h) (best_holds false (side_of right p) (Below (length es)) (numbered 0 es) (numbered_below (length es) 0 es (omega arith))))
  where
    by_number_lem : (x : ℕ) → OfBest (Below (length es)) (kept_of es x) → x ≤ length es
    by_number_lem zero b = omega arith
    by_number_lem (suc i) b = omega arith

-- ---- what is made
module _ (percent : Bool) (es : List Edge) (p : ℕ) where
  made_txt : (j : ℕ) (t : Bool) → outcome_of es p (cond t (choice TxtPercent 0 j) no_choice) ≡ cond t (made (percent_edge p (get_or es j no_edge).end (get_or es j no_edge).txt) (j ∷ [])) nothing
  unfolding outcome_of
  made_txt j true = refl
  made_txt j false = refl

  made_otherwise : (y : ℕ) → outcome_of es p (otherwise_of percent es y) ≡ otherwise percent p (kept_of es y)
  unfolding outcome_of
  made_otherwise zero = refl
  made_otherwise (suc j) = made_txt j (percent && is_numeric (get_or es j no_edge))

  module _ (c : std.Option Choice) (m : Outcome) (other : outcome_of es p c ≡ m) where
    made_both : (i j lv rv : ℕ) → whole_value (get_or es i no_edge) ≡ some lv → whole_value (get_or es j no_edge) ≡ some rv → outcome_of es p (both_of percent c i lv j) ≡ both percent m i (get_or es i no_edge) lv j (get_or es j no_edge) rv
    unfolding outcome_of
    made_both i j lv rv e f = by_tests (eqb lv 100) (not percent && not (eqb lv 0))
      where
        by_tests : (t u : Bool) → outcome_of es p (cond t (choice Percent i j) (cond u (choice Fraction i j) c))
            ≡ cond t (made (percent_edge (get_or es i no_edge).start (get_or es j no_edge).end (decimal rv)) (i ∷ j ∷ [])) (cond u (made (fraction_edge (get_or es i no_edge) lv (get_or es j no_edge) rv) (i ∷ j ∷ [])) m)
        by_tests true u = rw f
        by_tests false true = rw (e, f)
        by_tests false false = other

    made_values : (i j : ℕ) (v w : Option ℕ) → whole_value (get_or es i no_edge) ≡ v → whole_value (get_or es j no_edge) ≡ w → outcome_of es p (with_values_of percent c i v j w) ≡ with_values percent m i (get_or es i no_edge) v j (get_or es j no_edge) w
    made_values i j none w e f = other
    made_values i j (some lv) none e f = other
    made_values i j (some lv) (some rv) e f = made_both i j lv rv e f

    made_between : (x y : ℕ) → outcome_of es p (between_of percent c es x y) ≡ between percent m (kept_of es x) (kept_of es y)
    made_between zero y = other
    made_between (suc i) zero = other
    made_between (suc i) (suc j) = made_values i j (whole_value (get_or es i no_edge)) (whole_value (get_or es j no_edge)) refl refl

-- ---- the choice may stand
not_zero : (v : ℕ) → not (eqb v 0) ≡ true → 0 < v
not_zero v u = let n = eqb-false v 0 (not-true (eqb v 0) u) in omega arith

module _ (es : List Edge) where
  pub valid_none : Valid es no_choice
  valid_none = record { uses = tt }

  module _ (percent : Bool) where
    valid_otherwise : (y : ℕ) → y ≤ length es → Valid es (otherwise_of percent es y)
    valid_otherwise zero h = valid_none
    valid_otherwise (suc j) h =
        cond_cases (Valid es) (percent && is_numeric (get_or es j no_edge))
        (λ t. record { uses = record { right = omega arith; numeric = (and-true percent (is_numeric (get_or es j no_edge)) t).1 } })
        (λ t. valid_none)

    module _ (c : std.Option Choice) (other : Valid es c) where
      valid_both : (i j lv rv : ℕ) → i < length es → j < length es → whole_value (get_or es i no_edge) ≡ some lv → whole_value (get_or es j no_edge) ≡ some rv → Valid es (both_of percent c i lv j)
      valid_both i j lv rv h k e f =
          let t : Two es i j = record { left = h; right = k; left_value = (lv, e); right_value = (rv, f) } in
          cond_cases (Valid es) (eqb lv 100) (λ x. record { uses = t })
          (λ x. cond_cases (Valid es) (not percent && not (eqb lv 0)) (λ u. record { uses = record { two = t; not_zero = rw e (not_zero lv (and-true (not percent) (not (eqb lv 0)) u).1) } }) (λ u. other))

      valid_values : (i j : ℕ) (v w : Option ℕ) → i < length es → j < length es → whole_value (get_or es i no_edge) ≡ v → whole_value (get_or es j no_edge) ≡ w → Valid es (with_values_of percent c i v j w)
      valid_values i j none w h k e f = other
      valid_values i j (some lv) none h k e f = other
      valid_values i j (some lv) (some rv) h k e f = valid_both i j lv rv h k e f

      valid_between : (x y : ℕ) → x ≤ length es → y ≤ length es → Valid es (between_of percent c es x y)
      valid_between zero y h k = other
      valid_between (suc i) zero h k = other
      valid_between (suc i) (suc j) h k = valid_values i j (whole_value (get_or es i no_edge)) (whole_value (get_or es j no_edge)) (omega arith) (omega arith) refl refl

-- ---- what the code decides, step by step
module _ (es : List Edge) (percent : Bool) where
  pub otherwise_connector : (y : ℕ) → not percent ≡ true → no_choice ≡ otherwise_of percent es y
  otherwise_connector zero h = refl
  otherwise_connector (suc j) h = rw (not-true percent h)

  pub otherwise_none : (y : ℕ) → y ≡ 0 → no_choice ≡ otherwise_of percent es y
  otherwise_none y h = rw h

  module _ (h : not percent ≡ false) where
    by_kind : (y : ℕ) → (y ≡ 0 → ⊥) → {b : Bool} → b ≡ is_numeric (get_or es (y - 1) no_edge) → cond b (choice TxtPercent 0 (y - 1)) no_choice ≡ otherwise_of percent es y
    by_kind zero n e = absurd (n refl)
    by_kind (suc j) n e = let z : suc j - 1 ≡ j = omega arith in rw (e, z, not-false percent h)

    pub otherwise_regular : (y : ℕ) → (y ≡ 0 → ⊥) → {b : Bool} → b ≡ is_numeric (get_or es (y - 1) no_edge) → not b ≡ true → no_choice ≡ otherwise_of percent es y
    otherwise_regular y n {b} e t = ap (λ (u : Bool). cond u (choice TxtPercent 0 (y - 1)) no_choice) (sym (not-true b t)) ∙ by_kind y n e

    pub otherwise_numeric : (y : ℕ) → (y ≡ 0 → ⊥) → {b : Bool} → b ≡ is_numeric (get_or es (y - 1) no_edge) → not b ≡ false → choice TxtPercent 0 (y - 1) ≡ otherwise_of percent es y
    otherwise_numeric y n {b} e t = ap (λ (u : Bool). cond u (choice TxtPercent 0 (y - 1)) no_choice) (sym (not-false b t)) ∙ by_kind y n e

  module _ (c : std.Option Choice) where
    pub between_both : (x y : ℕ) → (x ≡ 0 → ⊥) → (y ≡ 0 → ⊥) → {u v : Option ℕ} → u ≡ whole_value (get_or es (x - 1) no_edge) → v ≡ whole_value (get_or es (y - 1) no_edge) → {r : std.Option Choice} → r ≡ with_values_of percent c (x - 1) u (y - 1) v → r ≡ between_of percent c es x y
    between_both zero y n m e f g = absurd (n refl)
    between_both (suc i) zero n m e f g = absurd (m refl)
    between_both (suc i) (suc j) n m e f g =
        let a : suc i - 1 ≡ i = omega arith in
        let b : suc j - 1 ≡ j = omega arith in
        g ∙ rw (e, f, a, b)

-- ---- a marker of n characters at place p
module _ (percent : Bool) (es : List Edge) (lefts rights : List ℕ) (p n : ℕ) (inside : p + n ≤ 256) (left : Neighbors false es lefts) (right : Neighbors true es rights) {x y : ℕ} (x-is : x ≡ get_or lefts p 0) (y-is : y ≡ get_or rights (p + n) 0) {o r : std.Option Choice} (o_is : o ≡ otherwise_of percent es y) (r-is : r ≡ between_of percent o es x y) where
  left_below : x ≤ length es
  left_below = rw x-is (kept_below false es lefts left p (omega arith))

  right_below : y ≤ length es
  right_below = rw y-is (kept_below true es rights right (p + n) inside)

  pub marked_made : outcome_of es p r ≡ marked percent es p n
  unfolding marked
  marked_made =
      let l : kept_of es x ≡ left_neighbor false es p = rw x-is (left.at p (omega arith)) in
      let r : kept_of es y ≡ right_neighbor false es (p + n) = rw y-is (right.at (p + n) inside) in
      rw (r-is, o_is, ← l, ← r) (made_between percent es p (otherwise_of percent es y) (otherwise percent p (kept_of es y)) (made_otherwise percent es p y) x y)

  pub marked_valid : Valid es r
  marked_valid = rw (r-is, o_is) (valid_between es percent (otherwise_of percent es y) (valid_otherwise es percent y right_below) x y left_below right_below)
