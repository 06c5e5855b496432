-- What the choices of all places use, place after place. No contract cites this file.
-- In order: lists of what was made; one place more; a turn of the loop; the edges that one choice uses; the loop. Assumes nothing.
use mathlib.Core.Path.{◌≡◌, refl, sym, ap, ◌∙◌, subst}
use mathlib.Core.List.{List, [], ◌∷◌, ◌++◌, append_assoc}
use Prim.Native.Nat.{ℕ, zero, suc, ◌+◌, ◌≤◌, ◌<◌}
use native.Mathlib.Nat.{suc-add, add-suc, add-zero, zero-add}
use native.Mathlib.Numerals.{add-one}
use native.Mathlib.Omega.{arith}
use lib.ListN.{length, get_or}
use Rattle.std.specs.Prelude.{Option, Some, None}
use Rattle.edge.specs.Edge.{Edge}
use Rattle.lattice.specs.declared.Lattice.{Lattice}
use Rattle.lattice.specs.Lattice.{turn_off_at, turn_off}
use Rattle.lattice.specs.Kept.{no_edge, Holds, SameBehind}
use Rattle.numbers.specs.Fractions.{Outcome, made, nothing, used_edges}
use Rattle.fraction_choices.specs.declared.decision.Form.{Form}
use Rattle.fraction_choices.specs.declared.decision.Form.TheVariants.{Percent, Fraction, TxtPercent}
use Rattle.fraction_choices.specs.declared.decision.Choice.{Choice}
use Rattle.fraction_choices.specs.Choice.{outcome_of, formed, Valid}
use Rattle.fraction_choices.specs.Choices.{choice_at}
use Rattle.fractions.specs.Outcomes.{outcomes_of, used_with, used_by, AllValid}
use Rattle.fractions.proofs.deactivate.KeepsLaws.{keeps_turn_off, valid_keeps}

-- ---- lists of what was made
used_append : (a b : List Outcome) → used_edges (a ++ b) ≡ used_edges a ++ used_edges b
unfolding used_edges
used_append [] b = refl
used_append (made e is ∷ a) b = ap (λ (r : List ℕ). is ++ r) (used_append a b) ∙ sym (append_assoc is (used_edges a) (used_edges b))
used_append (nothing ∷ a) b = used_append a b

turn_off_append : (es : List Edge) (a b : List ℕ) → turn_off es (a ++ b) ≡ turn_off (turn_off es a) b
unfolding turn_off
turn_off_append es [] b = refl
turn_off_append es (i ∷ a) b = turn_off_append (turn_off_at es i) a b

used_made : (es : List Edge) (p : ℕ) (m : Option Choice) → used_edges (outcome_of es p m ∷ []) ≡ used_by m
unfolding outcome_of used_by used_edges
used_made es p None = refl
used_made es p (Some c) = go c.form
  where
    go : (f : Form) → used_edges (formed f p c.left (get_or es c.left no_edge) c.right (get_or es c.right no_edge) ∷ []) ≡ used_with f c.left c.right
    go Percent = refl
    go Fraction = refl
    go TxtPercent = refl

-- ---- one place more
module _ (es : List Edge) (cs : List (Option Choice)) where
  mades_snoc : (p k : ℕ) → outcomes_of es cs p (suc k) ≡ outcomes_of es cs p k ++ (outcome_of es (p + k) (choice_at cs (p + k)) ∷ [])
  unfolding outcomes_of
  mades_snoc p zero = rw (add-zero p)
  mades_snoc p (suc k) = rw (add-suc p k, ← suc-add p k) (ap (λ (r : List Outcome). outcome_of es p (choice_at cs p) ∷ r) (mades_snoc (suc p) k))

  pub mades_more : (p : ℕ) → outcomes_of es cs 0 (p + 1) ≡ outcomes_of es cs 0 p ++ (outcome_of es p (choice_at cs p) ∷ [])
  mades_more p = ap (outcomes_of es cs 0) (add-one p) ∙ mades_snoc 0 p ∙ ap (λ (q : ℕ). outcomes_of es cs 0 p ++ (outcome_of es q (choice_at cs q) ∷ [])) (zero-add p)

-- ---- a turn of the loop that turns edges inactive
module _ (es : List Edge) (cs : List (Option Choice)) (n p : ℕ) (v : AllValid es cs n) (h : p < n) where
  pub turn_valid : Valid (turn_off es (used_edges (outcomes_of es cs 0 p))) (choice_at cs p)
  turn_valid = valid_keeps (keeps_turn_off es (used_edges (outcomes_of es cs 0 p))) (v p h)

  pub turn_more : turn_off (turn_off es (used_edges (outcomes_of es cs 0 p))) (used_by (choice_at cs p)) ≡ turn_off es (used_edges (outcomes_of es cs 0 (p + 1)))
  turn_more =
      sym (ap (λ (r : List Outcome). turn_off es (used_edges r)) (mades_more es cs p)
      ∙ ap (turn_off es) (used_append (outcomes_of es cs 0 p) (outcome_of es p (choice_at cs p) ∷ []))
      ∙ turn_off_append es (used_edges (outcomes_of es cs 0 p)) (used_edges (outcome_of es p (choice_at cs p) ∷ []))
      ∙ ap (turn_off (turn_off es (used_edges (outcomes_of es cs 0 p)))) (used_made es p (choice_at cs p)))

-- ---- the edges that one choice uses
module _ {w : List ℕ} {l : Lattice} (es : List Edge) {m : Option Choice} where
  pub off_none : m ≡ None → Holds w l es → Holds w l (turn_off es (used_by m))
  unfolding used_by turn_off
  off_none e h = rw e h

  pub off_right : {c : Choice} → m ≡ Some c → c.form ≡ TxtPercent → Holds w l (turn_off_at es c.right) → Holds w l (turn_off es (used_by m))
  unfolding used_by turn_off
  off_right d e h = rw (d, e) h

  pub off_percent : {c : Choice} → m ≡ Some c → c.form ≡ Percent → Holds w l (turn_off_at (turn_off_at es c.left) c.right) → Holds w l (turn_off es (used_by m))
  unfolding used_by turn_off
  off_percent d e h = rw (d, e) h

  pub off_fraction : {c : Choice} → m ≡ Some c → c.form ≡ Fraction → Holds w l (turn_off_at (turn_off_at es c.left) c.right) → Holds w l (turn_off es (used_by m))
  unfolding used_by turn_off
  off_fraction d e h = rw (d, e) h

-- ---- the loop that turns edges inactive: those of the places before p are
pub record Turned (w₀ : List ℕ) (l : Lattice) (cs : List (Option Choice)) (n : ℕ) (w : List ℕ) (p : ℕ) : Type 0 where
  pub most : p ≤ n
  pub long : length w ≡ length w₀
  pub frame : SameBehind w₀ w
  pub holds : (es : List Edge) → Holds w₀ l es → AllValid es cs n → Holds w l (turn_off es (used_edges (outcomes_of es cs 0 p)))

pub turned_start : (w : List ℕ) (l : Lattice) (cs : List (Option Choice)) (n : ℕ) → Turned w l cs n w 0
unfolding outcomes_of used_edges turn_off
turned_start w l cs n = record { most = omega arith; long = refl; frame = refl; holds = λ es h v. h }

module _ {w₀ : List ℕ} {l : Lattice} {cs : List (Option Choice)} {n : ℕ} {w : List ℕ} {p : ℕ} (q : Turned w₀ l cs n w p) where
  pub turned_next : p < n → {es : List Edge} → Holds w₀ l es → AllValid es cs n → (ds : List Edge) × Holds w l ds × Valid ds (choice_at cs p)
  turned_next h {es} k v = (turn_off es (used_edges (outcomes_of es cs 0 p)), q.holds es k v, turn_valid es cs n p v h)

  pub turned_more : p < n → {u : List ℕ} → length u ≡ length w → SameBehind w u → ((ds : List Edge) → Holds w l ds → Holds u l (turn_off ds (used_by (choice_at cs p)))) → Turned w₀ l cs n u (p + 1)
  turned_more h {u} x y f = record {
    most = omega arith;
    long = x ∙ q.long;
    frame = y ∙ q.frame;
    holds = λ es k v. subst (Holds u l) (turn_more es cs n p v h) (f _ (q.holds es k v));
  }

  pub turned_ends : n ≤ p → (es : List Edge) → Holds w₀ l es → AllValid es cs n → Holds w l (turn_off es (used_edges (outcomes_of es cs 0 n)))
  turned_ends h es k v = let m = q.most in let e : p ≡ n = omega arith in subst (λ (z : ℕ). Holds w l (turn_off es (used_edges (outcomes_of es cs 0 z)))) e (q.holds es k v)
