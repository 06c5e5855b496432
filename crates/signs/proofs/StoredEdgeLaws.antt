-- Laws of G6 for a stored edge of the pass list, and for the whole list (`specs/SignEdges.antt`). No contract cites this file.
-- In order: both lists; the stored edges one at a time. Assumes nothing.
use mathlib.Core.Path.{◌≡◌, refl, sym, ap, ◌∙◌, subst}
use mathlib.Core.Bool.{Bool, true, false, cond}
use mathlib.Core.List.{List, [], ◌∷◌, ◌++◌, map}
use Prim.Native.Nat.{ℕ, ◌+◌, ◌-◌, ◌*◌, ◌≤◌, ◌<◌}
use native.Mathlib.Nat.{sub-zero}
use Rattle.table.specs.Table.{Table}
use Rattle.table.specs.Layout.{list_at}
use Rattle.table.specs.Answers.{table_of}
use Rattle.table.specs.declared.shape.Shape.{Shape}
use Rattle.passes.specs.NumEdge.{has}
use Rattle.pass_list.specs.declared.record.PassEdge.{PassEdge}
use Rattle.pass_list.specs.StoredEdge.{StoredEdge, Every, EdgeIs, cons}
use Rattle.pass_list.specs.Stored.{stored_at, stored_list_at}
use Rattle.pass_list.specs.Edges.{edge_of, points_of}
use Rattle.pass_list.proofs.StoredLaws.{stored_edges_cons, stored_edges_none}
use Rattle.pass_list.specs.Layout.{SIZE}
use Rattle.edge.specs.Edge.{Edge}
use Rattle.lattice.specs.declared.Lattice.{Lattice}
use Rattle.lattice.specs.Lattice.{add_all}
use Rattle.lattice.specs.Kept.{Holds}
use Rattle.lattice.proofs.HoldsLaws.{add_all_append}
use Rattle.pass_edge.specs.Grounded.{Grounded, AllGrounded}
use Rattle.numbers.specs.Signs.{signed, signs}
use Rattle.signs.specs.SignsOf.{signs_of}
use Rattle.markers.proofs.MarkLaws.{Marks}
use Rattle.signs.proofs.edges.SignLaws.{signs_first}

-- ---- both lists, where the stored edge has a value
module _ (w table : List ℕ) (h : Shape) {x : PassEdge} {i : StoredEdge} (e : EdgeIs x i) where
  flag_is : x.num.has_value ≡ i.has_value
  flag_is = ap (λ (y : PassEdge). y.num.has_value) e.is

  both_signs : i.has_value ≡ true → signs_of (table_of table h) w (edge_of w table i) ≡ signed w 45 (edge_of w table i) (list_at table h.minus) ++ signed w 43 (edge_of w table i) (list_at table h.plus)
  unfolding signs_of table_of edge_of
  both_signs t = rw t

  no_signs : i.has_value ≡ false → signs_of (table_of table h) w (edge_of w table i) ≡ []
  unfolding signs_of edge_of
  no_signs t = rw t

  pub both_holds : x.num.has_value ≡ true → {v : List ℕ} {l : Lattice} (es : List Edge)
      → Holds v l (add_all (add_all es (signed w 45 (edge_of w table i) (list_at table h.minus))) (signed w 43 (edge_of w table i) (list_at table h.plus)))
      → Holds v l (add_all es (signs_of (table_of table h) w (edge_of w table i)))
  both_holds t es k = rw (both_signs (sym flag_is ∙ t), add_all_append es (signed w 45 (edge_of w table i) (list_at table h.minus)) (signed w 43 (edge_of w table i) (list_at table h.plus))) k

  pub none_holds : x.num.has_value ≡ false → {v : List ℕ} {l : Lattice} (es : List Edge) → Holds v l es → Holds v l (add_all es (signs_of (table_of table h) w (edge_of w table i)))
  unfolding add_all
  none_holds t es k = rw (no_signs (sym flag_is ∙ t)) k

  -- before the line's first place there is none
  first_signs : i.start ≡ 0 → Marks (table_of table h) → signs_of (table_of table h) w (edge_of w table i) ≡ []
  unfolding signs_of edge_of
  first_signs z m = rw (signs_first w 45 (edge_of w table i) z _ m.minus, signs_first w 43 (edge_of w table i) z _ m.plus) (go (has (edge_of w table i).value))
    where
      go : (b : Bool) → ◌≡◌ {A = List Edge} (cond b [] []) []
      go true = refl
      go false = refl

  pub first_holds : x.start.0 ≡ 0 → Marks (table_of table h) → {v : List ℕ} {l : Lattice} (es : List Edge) → Holds v l es → Holds v l (add_all es (signs_of (table_of table h) w (edge_of w table i)))
  unfolding add_all
  first_holds z m es k = rw (first_signs (sym (ap (λ (y : PassEdge). y.start.0) e.is) ∙ z) m) k

-- ---- the stored edges of the list s, one at a time
module _ (t : Table) (w table s : List ℕ) (n : ℕ) where
  -- G6's edges for the stored edges from the i-th on
  abbrev pub rest : ℕ → List Edge
  rest i = signs t w (map (edge_of w table) (stored_list_at s i (n - i)))

  pub rest_start : rest 0 ≡ signs t w (map (edge_of w table) (stored_list_at s 0 n))
  rest_start = rw (sub-zero n)

  module _ (i : ℕ) where
    pub rest_next : i < n → rest i ≡ signs_of t w (edge_of w table (stored_at s (i * SIZE))) ++ rest (i + 1)
    unfolding signs signs_of
    rest_next h = rw (stored_edges_cons s i n h)

    pub rest_end : n ≤ i → [] ≡ rest i
    unfolding signs
    rest_end h = rw (stored_edges_none s i n h)

parts : {P : StoredEdge → Type 0} {x : StoredEdge} {l : List StoredEdge} → Every P (x ∷ l) → P x × Every P l
parts (cons p q) = (p, q)

module _ (w table s : List ℕ) (n : ℕ) where
  pub sounds_start : AllGrounded w table (stored_list_at s 0 n) → AllGrounded w table (stored_list_at s 0 (n - 0))
  sounds_start h = rw (sub-zero n) h

  -- the i-th, with the points that count, and those behind it
  pub sounds_next : (i : ℕ) → i < n → AllGrounded w table (stored_list_at s i (n - i))
      → ((b : Bool) × Grounded (points_of b w) w table (stored_at s (i * SIZE))) × AllGrounded w table (stored_list_at s (i + 1) (n - (i + 1)))
  sounds_next i h k =
      let (p, q) = parts (subst (Every (Grounded (points_of k.marks w) w table)) (stored_edges_cons s i n h) k.each) in
      ((k.marks, p), record { marks = k.marks; each = q })
