-- What the choices of all places lead to, place after place. No contract cites this file.
-- In order: lists of what was made; the first places only, and all of them; over a lattice that keeps its edges; a turn of the loop that adds edges, and the loop. Assumes nothing.
use mathlib.Core.Path.{◌≡◌, refl, sym, ap, ◌∙◌, subst}
use mathlib.Core.List.{List, [], ◌∷◌, ◌++◌}
use Prim.Native.Nat.{ℕ, zero, suc, ◌+◌, ◌-◌, ◌≤◌, ◌<◌}
use native.Mathlib.Nat.{suc-add}
use native.Mathlib.Omega.{arith}
use lib.ListN.{length}
use Rattle.std.specs.Prelude.{Option}
use Rattle.table.specs.Table.{Table}
use Rattle.edge.specs.Edge.{Edge}
use Rattle.lattice.specs.declared.Lattice.{Lattice}
use Rattle.lattice.specs.Lattice.{add_all}
use Rattle.lattice.specs.Kept.{Holds, SameBehind}
use Rattle.lattice.proofs.HoldsLaws.{add_all_append}
use Rattle.pass_list.specs.StoredEdge.{Every, nil, cons}
use Rattle.numbers.proofs.stages.CallLaws.{add_all_call}
use Rattle.numbers.specs.Fractions.{Outcome, made, nothing, outcome_at, outcomes_from, new_edges}
use Rattle.fraction_choices.specs.declared.decision.Choice.{Choice}
use Rattle.fraction_choices.specs.Choice.{outcome_of, Valid}
use Rattle.fraction_choices.specs.Choices.{choice_at}
use Rattle.fractions.specs.NewEdge.{HoldsChoice, add_outcome}
use Rattle.fractions.specs.Outcomes.{outcomes_of, AllValid}
use Rattle.fractions.proofs.deactivate.KeepsLaws.{Keeps, valid_keeps}
use Rattle.fractions.proofs.deactivate.TurnedLaws.{mades_more}
use Rattle.fractions.specs.Planned.{Planned}
use Rattle.fractions.proofs.KeepsLaws.{keeps_add_all, made_keeps}

-- ---- lists of what was made
new_append : (a b : List Outcome) → new_edges (a ++ b) ≡ new_edges a ++ new_edges b
unfolding new_edges
new_append [] b = refl
new_append (made e is ∷ a) b = ap (λ (r : List Edge). e ∷ r) (new_append a b)
new_append (nothing ∷ a) b = new_append a b

add_made : (es : List Edge) (m : Outcome) → add_all es (new_edges (m ∷ [])) ≡ add_outcome es m
unfolding add_all new_edges
add_made es (made e is) = refl
add_made es nothing = refl

-- ---- the first places only, and all of them
module _ (es : List Edge) (cs : List (Option Choice)) where
  module _ {P : Edge → Type 0} where
    one_less : (m : Outcome) (a b : List Outcome) → (Every P (new_edges a) → Every P (new_edges b)) → Every P (new_edges (m ∷ a)) → Every P (new_edges (m ∷ b))
    unfolding new_edges
    one_less (made e is) a b f (cons p h) = cons p (f h)
    one_less nothing a b f h = f h

    first_new : (p k j : ℕ) → Every P (new_edges (outcomes_of es cs p (k + j))) → Every P (new_edges (outcomes_of es cs p k))
    unfolding outcomes_of new_edges
    first_new p zero j h = nil
    first_new p (suc k) j h =
        one_less (outcome_of es p (choice_at cs p)) (outcomes_of es cs (suc p) (k + j)) (outcomes_of es cs (suc p) k) (first_new (suc p) k j)
        (subst (λ (z : ℕ). Every P (new_edges (outcomes_of es cs p z))) (suc-add k j) h)

    pub new_before : (p n : ℕ) → p ≤ n → Every P (new_edges (outcomes_of es cs 0 n)) → Every P (new_edges (outcomes_of es cs 0 p))
    new_before p n h q = let e : n ≡ p + (n - p) = omega arith in first_new 0 p (n - p) (subst (λ (z : ℕ). Every P (new_edges (outcomes_of es cs 0 z))) e q)

  -- the definition's list
  mades_from : (t : Table) (w : List ℕ) (p k : ℕ) → ((q : ℕ) → q < p + k → outcome_of es q (choice_at cs q) ≡ outcome_at t w es q) → outcomes_of es cs p k ≡ outcomes_from t w es p k
  unfolding outcomes_of outcomes_from
  mades_from t w p zero h = refl
  mades_from t w p (suc k) h = rw (h p (omega arith), mades_from t w (suc p) k (λ q x. h q (omega arith)))

  pub mades_all : (t : Table) (w : List ℕ) (n : ℕ) → ((q : ℕ) → q < n → outcome_of es q (choice_at cs q) ≡ outcome_at t w es q) → outcomes_of es cs 0 n ≡ outcomes_from t w es 0 n
  mades_all t w n h = mades_from t w 0 n (λ q x. h q (omega arith))

-- ---- over a lattice that keeps its edges
module _ {es ds : List Edge} (k : Keeps es ds) (cs : List (Option Choice)) where
  mades_kept : (p n : ℕ) → ((q : ℕ) → q < p + n → Valid es (choice_at cs q)) → outcomes_of ds cs p n ≡ outcomes_of es cs p n
  unfolding outcomes_of
  mades_kept p zero v = refl
  mades_kept p (suc n) v = rw (made_keeps k p (v p (omega arith)), mades_kept (suc p) n (λ q x. v q (omega arith)))

  pub mades_keep : (n : ℕ) → AllValid es cs n → outcomes_of ds cs 0 n ≡ outcomes_of es cs 0 n
  mades_keep n v = mades_kept 0 n (λ q x. v q (omega arith))

-- ---- a turn of the loop that adds edges
module _ {n : ℕ} {w u : List ℕ} {l k : Lattice} {es : List Edge} {cs : List (Option Choice)} (q : Planned n w l es cs) (p : ℕ) (h : p < n) (holds : Holds u k (add_all es (new_edges (outcomes_of es cs 0 p)))) where
  pub add_over : HoldsChoice n u k (add_all es (new_edges (outcomes_of es cs 0 p))) (choice_at cs p)
  add_over = record {
    has = record { holds = holds; call = add_all_call q.has.call (new_before es cs p n (omega arith) q.new) };
    valid = valid_keeps (keeps_add_all es (new_edges (outcomes_of es cs 0 p))) (q.valid p h);
  }

pub add_more : (es : List Edge) (cs : List (Option Choice)) (p : ℕ) → Valid es (choice_at cs p)
    → add_outcome (add_all es (new_edges (outcomes_of es cs 0 p))) (outcome_of (add_all es (new_edges (outcomes_of es cs 0 p))) p (choice_at cs p)) ≡ add_all es (new_edges (outcomes_of es cs 0 (p + 1)))
add_more es cs p v =
    let ds = new_edges (outcomes_of es cs 0 p) in
    let m = outcome_of es p (choice_at cs p) in
    ap (add_outcome (add_all es ds)) (made_keeps (keeps_add_all es ds) p v)
    ∙ sym (add_made (add_all es ds) m)
    ∙ sym (add_all_append es ds (new_edges (m ∷ [])))
    ∙ sym (ap (λ (r : List Outcome). add_all es (new_edges r)) (mades_more es cs p) ∙ ap (add_all es) (new_append (outcomes_of es cs 0 p) (m ∷ [])))

-- ---- the loop that adds edges: those of the places before p are
pub record Grown (w₀ : List ℕ) (l₀ : Lattice) (cs : List (Option Choice)) (n : ℕ) (w : List ℕ) (l : Lattice) (p : ℕ) : Type 0 where
  pub most : p ≤ n
  pub long : length w ≡ length w₀
  pub frame : SameBehind w₀ w
  pub holds : (es : List Edge) → Planned n w₀ l₀ es cs → Holds w l (add_all es (new_edges (outcomes_of es cs 0 p)))

pub grown_start : (w : List ℕ) (l : Lattice) (cs : List (Option Choice)) (n : ℕ) → Grown w l cs n w l 0
unfolding outcomes_of new_edges add_all
grown_start w l cs n = record { most = omega arith; long = refl; frame = refl; holds = λ es k. k.has.holds }

module _ {w₀ : List ℕ} {l₀ : Lattice} {cs : List (Option Choice)} {n : ℕ} {w : List ℕ} {l : Lattice} {p : ℕ} (q : Grown w₀ l₀ cs n w l p) where
  pub grown_next : p < n → {es : List Edge} → Planned n w₀ l₀ es cs → (ds : List Edge) × HoldsChoice n w l ds (choice_at cs p)
  grown_next h {es} k = (add_all es (new_edges (outcomes_of es cs 0 p)), add_over k p h (q.holds es k))

  pub grown_more : p < n → {u : List ℕ} {m : Lattice} → length u ≡ length w → SameBehind w u
      → ((j : ℕ) (ds : List Edge) → HoldsChoice j w l ds (choice_at cs p) → Holds u m (add_outcome ds (outcome_of ds p (choice_at cs p)))) → Grown w₀ l₀ cs n u m (p + 1)
  grown_more h {u} {m} x y f = record {
    most = omega arith;
    long = x ∙ q.long;
    frame = y ∙ q.frame;
    holds = λ es k. subst (Holds u m) (add_more es cs p (k.valid p h)) (f n _ (add_over k p h (q.holds es k)));
  }

  pub grown_ends : n ≤ p → (es : List Edge) → Planned n w₀ l₀ es cs → Holds w l (add_all es (new_edges (outcomes_of es cs 0 n)))
  grown_ends h es k = let m = q.most in let e : p ≡ n = omega arith in subst (λ (z : ℕ). Holds w l (add_all es (new_edges (outcomes_of es cs 0 z)))) e (q.holds es k)
