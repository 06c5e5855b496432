-- The three loops in a row are the stage. No contract cites this file.
-- In order: a full lattice; what the last loop asks for; what it leaves. Assumes nothing.
use mathlib.Core.Path.{◌≡◌, sym, ap, ◌∙◌, subst}
use mathlib.Core.List.{List}
use Prim.Native.Nat.{ℕ, ◌≤◌}
use lib.ListN.{length}
use Rattle.std.specs.Prelude.{Option}
use Rattle.table.specs.Table.{Table}
use Rattle.edge.specs.Edge.{Edge}
use Rattle.lattice.specs.declared.Lattice.{Lattice}
use Rattle.lattice.specs.Lattice.{add_all, turn_off}
use Rattle.lattice.specs.Kept.{Holds}
use Rattle.lattice.proofs.HoldsLaws.{over_of}
use Rattle.numbers.specs.CallEdge.{CallEdges}
use Rattle.numbers.proofs.stages.OverLaws.{holds_full, over_add_all, over_turn_off}
use Rattle.numbers.proofs.stages.CallLaws.{turn_off_call}
use Rattle.numbers.specs.Fractions.{Outcome, outcomes_from, new_edges, used_edges, fractions}
use Rattle.fraction_choices.specs.Around.{HoldsLine}
use Rattle.fraction_choices.specs.declared.decision.Choice.{Choice}
use Rattle.fraction_choices.specs.Choices.{Decided}
use Rattle.fractions.specs.Outcomes.{outcomes_of, AllValid}
use Rattle.fractions.specs.Planned.{Planned}
use Rattle.fractions.proofs.deactivate.KeepsLaws.{keeps_turn_off, valid_keeps}
use Rattle.fractions.proofs.OutcomesLaws.{mades_all, mades_keep}
use Rattle.fractions.proofs.NewLaws.{new_call}

-- ---- a full lattice
pub full_stage : (t : Table) (c : List ℕ) {w : List ℕ} {l : Lattice} {es : List Edge} → Holds w l es → l.len ≡ 0 → Holds w l (fractions t c es)
unfolding fractions
full_stage t c {es = es} q f =
    let ms = outcomes_from t c es 0 (length c) in
    holds_full q f (over_add_all (turn_off es (used_edges ms)) (new_edges ms) (over_turn_off es (used_edges ms) ∙ over_of q f))

-- what `choose` asks for
pub keeps_of : {n : ℕ} {w : List ℕ} {l : Lattice} {es : List Edge} → n ≤ 256 → (l.len ≡ 0 → ⊥) → Holds w l es → CallEdges n es → HoldsLine w l es
keeps_of {n} few f q c = record { chars = n; few = few; not_full = f; holds = q; edges = c }

-- t and c are the table and the line's characters
module _ (t : Table) (c : List ℕ) {n : ℕ} (es : List Edge) (cs : List (Option Choice)) (d : Decided t c es cs n) where
  pub all_valid : AllValid es cs n
  all_valid p h = (d p h).1

  same_mades : outcomes_of (turn_off es (used_edges (outcomes_of es cs 0 n))) cs 0 n ≡ outcomes_of es cs 0 n
  same_mades = mades_keep (keeps_turn_off es (used_edges (outcomes_of es cs 0 n))) cs n all_valid

  are_mades : outcomes_of es cs 0 n ≡ outcomes_from t c es 0 n
  are_mades = mades_all es cs t c n (λ q x. (d q x).0)

  -- ---- what the last loop asks for
  pub planned : n ≤ 256 → CallEdges n es → {w : List ℕ} {l : Lattice} → Holds w l (turn_off es (used_edges (outcomes_of es cs 0 n))) → Planned n w l (turn_off es (used_edges (outcomes_of es cs 0 n))) cs
  planned few call q = record {
    has = record { holds = q; call = turn_off_call (used_edges (outcomes_of es cs 0 n)) call };
    valid = λ p h. valid_keeps (keeps_turn_off es (used_edges (outcomes_of es cs 0 n))) (d p h).1;
    new = subst (λ (ms : List Outcome). CallEdges n (new_edges ms)) (sym (same_mades ∙ are_mades)) (new_call t c es few call 0 n);
  }

  -- ---- what it leaves
  stage_is : length c ≡ n → add_all (turn_off es (used_edges (outcomes_of es cs 0 n))) (new_edges (outcomes_of (turn_off es (used_edges (outcomes_of es cs 0 n))) cs 0 n)) ≡ fractions t c es
  unfolding fractions
  stage_is e =
      ap (λ (ms : List Outcome). add_all (turn_off es (used_edges (outcomes_of es cs 0 n))) (new_edges ms)) same_mades
      ∙ ap (λ (ms : List Outcome). add_all (turn_off es (used_edges ms)) (new_edges ms)) (are_mades ∙ ap (outcomes_from t c es 0) (sym e))

  -- w, l: after the second loop, u, k: after the third
  pub stage_holds : length c ≡ n → n ≤ 256 → CallEdges n es → {w u : List ℕ} {l k : Lattice} → Holds w l (turn_off es (used_edges (outcomes_of es cs 0 n)))
      → ((ds : List Edge) → Planned n w l ds cs → Holds u k (add_all ds (new_edges (outcomes_of ds cs 0 n)))) → Holds u k (fractions t c es)
  stage_holds e few call {u = u} {k = k} q f = subst (Holds u k) (stage_is e) (f _ (planned few call q))
