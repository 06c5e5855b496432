-- Laws of a whole edge by its numbers (`specs/WholeEdge.antt`). No contract cites this file. Assumes nothing.
use mathlib.Core.Path.{◌≡◌, refl, sym, ap, ◌∙◌}
use mathlib.Core.Bool.{Bool, true, false, cond}
use mathlib.Core.List.{List}
use Prim.Native.Nat.{ℕ, ◌≤◌}
use native.Mathlib.Omega.{arith}
use lib.ListN.{length}
use borrow.Author.Tests.{leb-true}
use Rattle.text.specs.declared.Offset.{Offset}
use Rattle.edge.specs.declared.EdgeView.{EdgeView}
use Rattle.edge.specs.declared.NumFields.{NumFields}
use Rattle.edge.specs.Layout.{stands, map_at, head_end, fields_end, next_at}
use Rattle.edge.specs.View.{view_at, fields_at}
use Rattle.edge.proofs.LayoutLaws.{if_on, if_off}
use Rattle.edge.proofs.CheckLaws.{view_fields}
use Rattle.walker.specs.Walk.{whole, here_at, behind}
use Rattle.walker.specs.WholeEdge.{no_fields, fields_behind, whole_edge_at}
use Rattle.std.specs.Prelude.{Option, Some, None}

-- ---- the fields behind a head, by bit 0 of the map
module _ (m : ℕ) (s : List ℕ) (at : ℕ) {b : Bool} {d : NumFields} (bit-0 : b ≡ stands 0 m) where
  pub numeric_behind : b ≡ true → d ≡ fields_at m s at → d ≡ fields_behind m s at
  numeric_behind on e = if_on (stands 0 m) (fields_at m s at) (no_fields m) (sym bit-0 ∙ on) e

  pub regular_behind : b ≡ false → d ≡ no_fields m → d ≡ fields_behind m s at
  regular_behind off e = if_off (stands 0 m) (fields_at m s at) (no_fields m) (sym bit-0 ∙ off) e

-- ---- an edge: where the walk says that one stands, it is whole, and its head is the one at the offset
module _ (s : List ℕ) (at : ℕ) {h : Option EdgeView} {v : EdgeView} (here : h ≡ here_at s at) (known : h ≡ Some v) where
  stands_here : (whole s at ≡ true) × (v ≡ view_at s at)
  stands_here = go (whole s at) refl (sym here ∙ known)
    where
      go : (b : Bool) → whole s at ≡ b → cond b (Some (view_at s at)) None ≡ Some v → (whole s at ≡ true) × (v ≡ view_at s at)
      go true e k = (e, cc)
      go false e k = let z : ◌≡◌ {A = ℕ} 0 1 = cc in absurd (omega arith)

  pub fields_end_within : stands 0 v.map ≡ true → fields_end v.map s v.fields.0 ≤ length s
  fields_end_within = view_fields s at (length s) v stands_here.1 (leb-true (next_at s at) (length s) stands_here.0)

  pub edge_stands : {d : NumFields} {b : Offset} → d ≡ fields_behind v.map s v.fields.0 → b.0 ≡ behind s at → Some (v, d, b) ≡ whole_edge_at s at
  unfolding view_at
  edge_stands f n = rw stands_here.0 (same stands_here.1 (f ∙ ap (λ (u : EdgeView). fields_behind u.map s u.fields.0) stands_here.1) (n ∙ sym (if_on (whole s at) (next_at s at) at stands_here.0 refl)))
    where
      same : {u w : EdgeView} {x y : NumFields} {o : Offset} {k : ℕ} → u ≡ w → x ≡ y → o.0 ≡ k → ◌≡◌ {A = Option (EdgeView × NumFields × Offset)} (Some (u, x, o)) (Some (w, y, record { 0 = k }))
      same p q r = rw (p, q, sym r)

-- ---- no edge
pub nothing_stands : (s : List ℕ) (at : ℕ) {h : Option EdgeView} → h ≡ here_at s at → h ≡ None → None ≡ whole_edge_at s at
nothing_stands s at here known = go (whole s at) (sym here ∙ known)
  where
    go : (b : Bool) → cond b (Some (view_at s at)) None ≡ None → None ≡ cond {A = Option (EdgeView × NumFields × Offset)} b (Some (view_at s at, fields_behind (map_at s at) s (head_end s at), record { 0 = next_at s at })) None
    go true k = let z : ◌≡◌ {A = ℕ} 0 1 = cc in absurd (omega arith)
    go false k = refl
