-- Laws of adding the stored edges of one kind in turn. In order: a stored edge behind the lattice; each stored edge of a list; one stored edge; one stored edge more.
use mathlib.Core.Path.{◌≡◌, refl, sym, ap, ◌∙◌, subst}
use mathlib.Core.Bool.{Bool, true, false, cond}
use mathlib.Core.List.{List, [], ◌∷◌, ◌++◌, map, map-append}
use Prim.Native.Nat.{ℕ, zero, suc, ◌+◌, ◌*◌, ◌≤◌, ◌<◌}
use native.Mathlib.Omega.{arith}
use native.Mathlib.Nat.{zero-add}
use lib.ListN.{length, drop, length-drop}
use lib.Dec.{eqb}
use borrow.Author.Tests.{eq-eqb, ne_eqb}
use Rattle.fields.proofs.PartLaws.{part_of_drop}
use Rattle.text.specs.Text.{chars}
use Rattle.pass_list.specs.declared.record.PassEdge.{PassEdge}
use Rattle.pass_list.specs.StoredEdge.{StoredEdge, Every, cons, EdgeIs}
use Rattle.pass_list.specs.Stored.{stored_of, stored_at, stored_list_at}
use Rattle.pass_list.specs.Edges.{points_of}
use Rattle.pass_list.proofs.StoredLaws.{stored_edges_snoc}
use Rattle.pass_list.specs.InTurn.{of_kind}
use Rattle.pass_list.specs.Layout.{SIZE}
use Rattle.pass_list.specs.Kind.{kind_number}
use Rattle.edge.specs.Edge.{Edge}
use Rattle.lattice.specs.Lattice.{add, add_all}
use Rattle.lattice.specs.declared.Lattice.{Lattice}
use Rattle.lattice.specs.Kept.{Holds, END, SameBehind}
use Rattle.lattice.proofs.HoldsLaws.{add_all_append}
use Rattle.pass_edge.specs.Grounded.{Grounded, AllGrounded, StoredIs}
use Rattle.pass_edge.specs.Adding.{Added, listed_of, kind_edges, add_if}

-- ---- a stored edge behind the lattice
pub stored_edge_behind_is : (w : List ℕ) (at : ℕ) → stored_at w (END + at) ≡ stored_at (drop END w) at
unfolding stored_at
stored_edge_behind_is w at = ap stored_of (sym (part_of_drop w END at SIZE))

pub stored_edge_behind : (line t : List ℕ) (w : List ℕ) (at : ℕ) (e : PassEdge) (b : Bool) → Grounded (points_of b (chars line)) (chars line) t (stored_at (drop END w) at) → EdgeIs e (stored_at w (END + at))
    → StoredIs line t e (stored_at (drop END w) at)
stored_edge_behind line t w at e b s h = record { is = subst (EdgeIs e) (stored_edge_behind_is w at) h; marks = b; sound = s }

-- its kind can be read alone
pub kind_behind : (w : List ℕ) (at : ℕ) → (stored_at w (END + at)).kind ≡ (stored_at (drop END w) at).kind
kind_behind w at = ap (λ (x : StoredEdge). x.kind) (stored_edge_behind_is w at)

-- ---- each stored edge of a list
every_stored_edges : (P : StoredEdge → Type 0) (s : List ℕ) (i n j : ℕ) → Every P (stored_list_at s i n) → j < n → P (stored_at s ((i + j) * SIZE))
unfolding stored_list_at
every_stored_edges P s i zero j e h = absurd (omega arith)
every_stored_edges P s i (suc n) zero (cons p e) h = let z : i + 0 ≡ i = omega arith in rw z p
every_stored_edges P s i (suc n) (suc j) (cons p e) h = let z : i + suc j ≡ suc i + j = omega arith in rw z (every_stored_edges P s (suc i) n j e (omega arith))

pub stored_edge_of : (P : StoredEdge → Type 0) (s : List ℕ) (n j : ℕ) → Every P (stored_list_at s 0 n) → j < n → P (stored_at s (j * SIZE))
stored_edge_of P s n j e h = rw zero-add at (every_stored_edges P s 0 n j e h)

-- ---- one stored edge
module _ (w t : List ℕ) (k : ℕ) (es : List Edge) (x : StoredEdge) where
  adds : kind_number x.kind ≡ k → add es (listed_of w t x) ≡ add_if w t k es x
  unfolding add_if
  adds h = rw (eq-eqb (kind_number x.kind) k h)

  pub passes_over : (kind_number x.kind ≡ k → ⊥) → es ≡ add_if w t k es x
  unfolding add_if
  passes_over h = rw (ne_eqb (kind_number x.kind) k h)

-- the stored edge x is of kind k, and was added
pub added_if : (line t : List ℕ) (k : ℕ) (e : PassEdge) (x : StoredEdge) → StoredIs line t e x → kind_number x.kind ≡ k → {s u : List ℕ} {l r : Lattice} → Added line t e s l u r → (es : List Edge) → Holds s l es
    → Holds u r (add_if (chars line) t k es x)
added_if line t k e x is z a es h = rw (← adds (chars line) t k es x z) (a.holds es x h is)

-- ---- one stored edge more
of_kind_append : (k : ℕ) (l m : List StoredEdge) → of_kind k (l ++ m) ≡ of_kind k l ++ of_kind k m
unfolding of_kind
of_kind_append k [] m = refl
of_kind_append k (x ∷ l) m = go (eqb (kind_number x.kind) k) (of_kind_append k l m)
  where
    go : (b : Bool) → of_kind k (l ++ m) ≡ of_kind k l ++ of_kind k m → cond b (x ∷ of_kind k (l ++ m)) (of_kind k (l ++ m)) ≡ cond b (x ∷ of_kind k l) (of_kind k l) ++ of_kind k m
    go true e = ap (λ (r : List StoredEdge). x ∷ r) e
    go false e = e

module _ (w t : List ℕ) (k : ℕ) (es : List Edge) where
  edges_append : (l m : List StoredEdge) → kind_edges w t k (l ++ m) ≡ kind_edges w t k l ++ kind_edges w t k m
  edges_append l m =
      ap (map (listed_of w t)) (of_kind_append k l m) ∙ map-append (listed_of w t) (of_kind k l) (of_kind k m)

  one_edge : (fs : List Edge) (x : StoredEdge) → add_all fs (kind_edges w t k (x ∷ [])) ≡ add_if w t k fs x
  unfolding of_kind add_if add_all
  one_edge fs x = go (eqb (kind_number x.kind) k)
    where
      go : (b : Bool) → add_all fs (map (listed_of w t) (cond b (x ∷ []) [])) ≡ cond b (add fs (listed_of w t x)) fs
      go true = refl
      go false = refl

  pub add_more : (s : List ℕ) (i : ℕ) → add_all es (kind_edges w t k (stored_list_at s 0 (i + 1))) ≡ add_if w t k (add_all es (kind_edges w t k (stored_list_at s 0 i))) (stored_at s (i * SIZE))
  add_more s i =
      let z : 0 + i ≡ i = omega arith in
      let x = stored_at s ((0 + i) * SIZE) in
      ap (λ (l : List StoredEdge). add_all es (kind_edges w t k l)) (stored_edges_snoc s 0 i)
      ∙ ap (add_all es) (edges_append (stored_list_at s 0 i) (x ∷ []))
      ∙ add_all_append es (kind_edges w t k (stored_list_at s 0 i)) (kind_edges w t k (x ∷ []))
      ∙ one_edge (add_all es (kind_edges w t k (stored_list_at s 0 i))) x
      ∙ ap (λ (j : ℕ). add_if w t k (add_all es (kind_edges w t k (stored_list_at s 0 i))) (stored_at s (j * SIZE))) z

  pub add_none : (s : List ℕ) → es ≡ add_all es (kind_edges w t k (stored_list_at s 0 0))
  unfolding stored_list_at of_kind add_all
  add_none s = refl

-- ---- the loop: i stored edges are looked at; s and l are the work space and the lattice before, u and r those now
pub record Adding (w t : List ℕ) (k n : ℕ) (s : List ℕ) (l : Lattice) (u : List ℕ) (r : Lattice) (i : ℕ) : Type 0 where
  pub inside : i ≤ n
  pub long : length u ≡ length s
  pub frame : SameBehind s u
  pub holds : (es : List Edge) → Holds s l es → Holds u r (add_all es (kind_edges w t k (stored_list_at (drop END s) 0 i)))

pub adding_none : (w t : List ℕ) (k n : ℕ) (s : List ℕ) (l : Lattice) → Adding w t k n s l s l 0
adding_none w t k n s l = record { inside = omega arith; long = refl; frame = refl; holds = λ es h. subst (Holds s l) (add_none w t k es (drop END s)) h }

-- a list of which nothing behind the lattice changed is as long as before
same_long : (s u : List ℕ) → END ≤ length s → END ≤ length u → SameBehind s u → length u ≡ length s
same_long s u h k e = omega (arith, length-drop END s, length-drop END u, ap length e)

module _ (w t : List ℕ) (k n : ℕ) (s : List ℕ) (l : Lattice) (u : List ℕ) (r : Lattice) (i : ℕ) (a : Adding w t k n s l u r i) where
  pub stored_edge_sound : AllGrounded w t (stored_list_at (drop END s) 0 n) → i < n → (b : Bool) × Grounded (points_of b w) w t (stored_at (drop END u) (i * SIZE))
  stored_edge_sound e h = (e.marks, rw a.frame (stored_edge_of (Grounded (points_of e.marks w) w t) (drop END s) n i e.each h))

  pub adding_more : (v : List ℕ) (m : Lattice) → (es : List Edge) → Holds s l es → i < n → SameBehind u v
      → ((fs : List Edge) → Holds u r fs → Holds v m (add_if w t k fs (stored_at (drop END u) (i * SIZE)))) → Adding w t k n s l v m (i + 1)
  adding_more v m es h j f g =
      let frame : SameBehind s v = f ∙ a.frame in
      let more : (fs : List Edge) → Holds s l fs → Holds v m (add_all fs (kind_edges w t k (stored_list_at (drop END s) 0 (i + 1)))) =
      λ fs q. rw (add_more w t k fs (drop END s) i) (rw a.frame at (g (add_all fs (kind_edges w t k (stored_list_at (drop END s) 0 i))) (a.holds fs q))) in
      record { inside = omega arith; long = same_long s v h.room (more es h).room frame; frame = frame; holds = more }

  pub adding_all : n ≤ i → (es : List Edge) → Holds s l es → Holds u r (add_all es (kind_edges w t k (stored_list_at (drop END s) 0 n)))
  adding_all h es q = let e : i ≡ n = omega (arith, a.inside) in subst (λ (j : ℕ). Holds u r (add_all es (kind_edges w t k (stored_list_at (drop END s) 0 j)))) e (a.holds es q)
