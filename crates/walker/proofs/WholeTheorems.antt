-- What is promised of whole edges beyond the contracts: over an accepted listing a caller that goes from the first edge to the next reads every edge listed, all its fields, and
-- then None, at the listing's end.
--     nth_whole     at step i stands edge i of the listing, and the offset given behind it is that of step i + 1
--     whole_end     after the last edge the offset is the listing's length, and no whole edge stands there
-- Assumes nothing.
use mathlib.Core.Path.{◌≡◌, refl, sym, ap, ◌∙◌}
use mathlib.Core.Bool.{Bool, true, false, cond}
use mathlib.Core.List.{List}
use Prim.Native.Nat.{ℕ, zero, suc, ◌≤◌, ◌<◌}
use native.Mathlib.Omega.{arith}
use lib.ListN.{length, get_or}
use lib.Dec.{leb}
use borrow.Author.Tests.{leb-true}
use Rattle.fields.specs.Fields.{le_at}
use Rattle.edge.specs.declared.EdgeView.{EdgeView}
use Rattle.edge.specs.declared.NumFields.{NumFields}
use Rattle.edge.specs.Edge as E
use Rattle.edge.specs.Layout.{stands, only, next_at, numeric_at, listed}
use Rattle.edge.specs.Check.{check_edges, check_listing}
use Rattle.edge.specs.View.{fields_at, numeric_of}
use Rattle.edge.proofs.CheckLaws.{fields_say}
use Rattle.walker.specs.Walk.{here_at, behind, onward}
use Rattle.walker.specs.WholeEdge.{no_fields, fields_behind, whole_edge_at}
use Rattle.walker.proofs.Theorems.{Says, nth_edge, nth_end, Walks, over, more, accepted, count_is, step_whole}
use Rattle.walker.proofs.whole_edge.EdgeLaws.{edge_stands, nothing_stands}
use Rattle.std.specs.Prelude.{Some, None, Ok, Err}

-- the head v and the fields d say the edge e of the listing s
pub record SaysAll (s : List ℕ) (v : EdgeView) (d : NumFields) (e : E.Edge) : Type 0 where
  pub head : Says s v e
  pub fields : only (stands 0 v.map) (numeric_of s s s d) ≡ e.num

-- what stands for the fields of a regular edge is not looked at
fields_behind_say : (m : ℕ) (s : List ℕ) (at : ℕ) → only (stands 0 m) (numeric_of s s s (fields_behind m s at)) ≡ only (stands 0 m) (numeric_at m s at)
fields_behind_say m s at = go (stands 0 m)
  where
    go : (b : Bool) → only b (numeric_of s s s (cond b (fields_at m s at) (no_fields m))) ≡ only b (numeric_at m s at)
    go true = ap (only true) (fields_say m s at)
    go false = refl

onward_suc : (i : ℕ) (s : List ℕ) (at : ℕ) → onward (suc i) s at ≡ behind s (onward i s at)
unfolding onward
onward_suc zero s at = refl
onward_suc (suc i) s at = onward_suc i s (behind s at)

module _ (given : Bool) (n : ℕ) (s : List ℕ) (c : ℕ) where
  -- the whole edge at step i
  pub record StandsWhole (i : ℕ) (e : E.Edge) : Type 0 where
    pub head : EdgeView
    pub fields : NumFields
    pub here : whole_edge_at s (onward i s 2) ≡ Some (head, fields, record { 0 = onward (suc i) s 2 })
    pub says : SaysAll s head fields e

  last_at : (k at : ℕ) → Walks given n s c k at → at ≤ length s → onward k s at ≡ length s
  unfolding onward
  last_at zero at (over e h) l = omega arith
  last_at (suc k) at (more h w) l = step_whole s at k h ∙ last_at k (next_at s at) w h

  -- an accepted listing has a count
  counted : check_listing given n s ≡ Ok c → 2 ≤ length s
  unfolding check_listing
  counted t = leb-true 2 (length s) (go (leb 2 (length s)) t)
    where
      go : (b : Bool) → cond b (check_edges given n s (le_at s 0 2) 2) (Err (record { 0 = 0 })) ≡ Ok c → b ≡ true
      go true t = refl
      go false t = let z : ◌≡◌ {A = ℕ} 0 1 = cc in absurd (omega arith)

  module _ (t : check_listing given n s ≡ Ok c) where
    pub nth_whole : (i : ℕ) (d : E.Edge) → i < c → StandsWhole i (get_or (listed s) i d)
    nth_whole i d h =
        let r = nth_edge given n s c t i d h in
        let v = r.head in
        record {
          head = v;
          fields = fields_behind v.map s v.fields.0;
          here = sym (edge_stands s (onward i s 2) refl r.here refl (onward_suc i s 2));
          says = record { head = r.says; fields = fields_behind_say v.map s v.fields.0 ∙ r.says.num };
        }

    pub whole_end : (onward c s 2 ≡ length s) × (whole_edge_at s (length s) ≡ None)
    whole_end =
        let w = accepted given n s c t in
        let e = ap (λ (k : ℕ). onward k s 2) (count_is given n s c (le_at s 0 2) 2 w) ∙ last_at (le_at s 0 2) 2 w (counted t) in
        (e, sym (nothing_stands s (length s) refl (ap (here_at s) (sym e) ∙ nth_end given n s c t c (omega arith))))
