-- What is promised of a walk beyond the contracts: over an accepted listing it reads the edges listed, one after the other, and then the end.
--     nth_edge     at step i stands edge i of the listing
--     nth_end      after the last edge stands the end, for good
-- Assumes nothing.
use mathlib.Core.Path.{◌≡◌, refl, sym, ap, ◌∙◌}
use mathlib.Core.Bool.{Bool, true, false, cond}
use mathlib.Core.List.{List}
use Prim.Native.Nat.{ℕ, zero, suc, ◌≤◌, ◌<◌}
use native.Mathlib.Omega.{arith}
use lib.ListN.{length, get_or}
use lib.Dec.{leb, ltb}
use borrow.Author.Tests.{le-leb, lt-leb, ltb-false}
use Rattle.fields.specs.Fields.{le_at}
use Rattle.edge.specs.declared.EdgeView.{EdgeView}
use Rattle.edge.specs.Edge as E
use Rattle.edge.specs.Layout.{stands, only, text_at, next_at, numeric_at, edge_at, edges_at, listed}
use Rattle.edge.specs.Check.{good, check_edges, check_listing}
use Rattle.fields.specs.Part.{part_of}
use Rattle.edge.specs.View.{view_at}
use Rattle.edge.proofs.CheckLaws.{good_whole}
use Rattle.walker.specs.Walk.{whole, here_at, onward}
use Rattle.walker.proofs.steps.WalkLaws.{next_past, here_edge, here_end, behind_edge, behind_end}
use Rattle.std.specs.Prelude.{Some, None, Ok, Err, Result}
use Rattle.text.specs.declared.Offset.{Offset}

-- the head v says the edge e of the listing s
pub record Says (s : List ℕ) (v : EdgeView) (e : E.Edge) : Type 0 where
  pub start : v.start.0 ≡ e.start
  pub end : v.end.0 ≡ e.end
  pub type : part_of s v.ty ≡ e.type
  pub txt : part_of s v.txt ≡ e.txt
  pub num : only (stands 0 v.map) (numeric_at v.map s v.fields.0) ≡ e.num

view_says : (s : List ℕ) (at : ℕ) → Says s (view_at s at) (edge_at s at)
unfolding view_at edge_at text_at
view_says s at = record { start = refl; end = refl; type = refl; txt = refl; num = refl }

-- ---- one step
pub step_whole : (s : List ℕ) (at i : ℕ) → next_at s at ≤ length s → onward (suc i) s at ≡ onward i s (next_at s at)
unfolding onward
step_whole s at i h = ap (onward i s) (sym (behind_edge s at {b = whole s at} refl (le-leb (next_at s at) (length s) h) refl))

-- where no whole edge stands a walk stays
cut_end : (s : List ℕ) (at : ℕ) → length s ≤ at → whole s at ≡ false
cut_end s at h = lt-leb (next_at s at) (length s) (omega (arith, next_past s at))

stays : (s : List ℕ) (at i : ℕ) → length s ≤ at → onward i s at ≡ at
unfolding onward
stays s at zero h = refl
stays s at (suc i) h = ap (onward i s) (sym (behind_end s at {b = whole s at} refl (cut_end s at h))) ∙ stays s at i h

-- ---- the steps over edges that are accepted
module _ (given : Bool) (n : ℕ) (s : List ℕ) (c : ℕ) where
  -- what a check that accepts has found of k edges
  pub data Walks : ℕ → ℕ → Type 0 where
    over : {at : ℕ} → c ≡ le_at s 0 2 → length s ≤ at → Walks zero at
    more : {k at : ℕ} → next_at s at ≤ length s → Walks k (next_at s at) → Walks (suc k) at

  walks : (k at : ℕ) → check_edges given n s k at ≡ Ok c → Walks k at
  unfolding check_edges
  walks zero at t = go (ltb at (length s)) refl t
    where
      go : (b : Bool) → ltb at (length s) ≡ b → cond {A = Result ℕ Offset} b (Err (record { 0 = at })) (Ok (le_at s 0 2)) ≡ Ok c → Walks zero at
      go true e t = let z : ◌≡◌ {A = ℕ} 0 1 = cc in absurd (omega arith)
      go false e t = over (cc) (ltb-false at (length s) e)
  walks (suc k) at t = go (good given n s at) refl (λ m. walks k (next_at s at) m) t
    where
      go : (b : Bool) → good given n s at ≡ b → (check_edges given n s k (next_at s at) ≡ Ok c → Walks k (next_at s at))
          → cond b (check_edges given n s k (next_at s at)) (Err (record { 0 = at })) ≡ Ok c → Walks (suc k) at
      go true e later t = more (good_whole given n s at e) (later t)
      go false e later t = let z : ◌≡◌ {A = ℕ} 0 1 = cc in absurd (omega arith)

  pub count_is : (k at : ℕ) → Walks k at → c ≡ le_at s 0 2
  count_is zero at (over e h) = e
  count_is (suc k) at (more h w) = count_is k (next_at s at) w

  pub accepted : check_listing given n s ≡ Ok c → Walks (le_at s 0 2) 2
  unfolding check_listing
  accepted t = go (leb 2 (length s)) t
    where
      go : (b : Bool) → cond b (check_edges given n s (le_at s 0 2) 2) (Err (record { 0 = 0 })) ≡ Ok c → Walks (le_at s 0 2) 2
      go true t = walks (le_at s 0 2) 2 t
      go false t = let z : ◌≡◌ {A = ℕ} 0 1 = cc in absurd (omega arith)

  -- what stands at a step
  pub record Stands (i at : ℕ) (es : List E.Edge) (d : E.Edge) : Type 0 where
    pub head : EdgeView
    pub here : here_at s (onward i s at) ≡ Some head
    pub says : Says s head (get_or es i d)

  edge_stands : (k at i : ℕ) (d : E.Edge) → Walks k at → i < k → Stands i at (edges_at k s at) d
  unfolding edges_at onward
  edge_stands zero at i d w h = absurd (omega arith)
  edge_stands (suc k) at zero d (more l w) h =
      record { head = view_at s at; here = sym (here_edge s at {b = whole s at} refl (le-leb (next_at s at) (length s) l) refl); says = view_says s at }
  edge_stands (suc k) at (suc i) d (more l w) h =
      let r = edge_stands k (next_at s at) i d w (omega arith) in
      record { head = r.head; here = ap (here_at s) (step_whole s at i l) ∙ r.here; says = r.says }

  end_stands : (k at i : ℕ) → Walks k at → k ≤ i → here_at s (onward i s at) ≡ None
  unfolding onward
  end_stands zero at i (over e h) l = ap (here_at s) (stays s at i h) ∙ sym (here_end s at {b = whole s at} refl (cut_end s at h))
  end_stands (suc k) at zero w l = absurd (omega arith)
  end_stands (suc k) at (suc i) (more h w) l = ap (here_at s) (step_whole s at i h) ∙ end_stands k (next_at s at) i w (omega arith)

  -- ---- a listing
  module _ (t : check_listing given n s ≡ Ok c) (i : ℕ) where
    pub nth_edge : (d : E.Edge) → i < c → Stands i 2 (listed s) d
    nth_edge d h = let w = accepted t in edge_stands (le_at s 0 2) 2 i d w (omega (arith, count_is (le_at s 0 2) 2 w))

    pub nth_end : c ≤ i → here_at s (onward i s 2) ≡ None
    nth_end h = let w = accepted t in end_stands (le_at s 0 2) 2 i w (omega (arith, count_is (le_at s 0 2) 2 w))
