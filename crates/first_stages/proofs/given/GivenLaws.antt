-- Laws of a listing that is given to the call. No contract cites this file.
-- In order: what the check shows of its edges; the walk over them; they are edges of the call. Assumes nothing.
use mathlib.Core.Path.{◌≡◌, refl, sym, ap, ◌∙◌}
use mathlib.Core.Bool.{true, ◌&&◌}
use mathlib.Core.List.{List, ◌∷◌}
use mathlib.Core.Option.{none, some, some-ne-none}
use Prim.Native.Nat.{ℕ, zero, suc, ◌-◌, ◌≤◌, ◌<◌}
use native.Mathlib.Omega.{arith}
use lib.ListN.{length, get_or}
use lib.Dec.{eqb, leb, ltb}
use borrow.Author.Tests.{eqb-true, leb-true}
use Rattle.text.proofs.RowLaws.{cond_cases, and-true}
use Rattle.fields.specs.Fields.{le_at}
use Rattle.edge.specs.Edge.{Edge, Numeric}
use Rattle.edge.specs.Layout.{map_at, next_at, edge_at, edges_at, listed}
use Rattle.edge.specs.Check.{allowed, sound, good, check_edges, check_listing}
use Rattle.edge.proofs.CheckLaws.{good_whole, map_within}
use Rattle.lattice.specs.declared.Lattice.{Lattice}
use Rattle.lattice.specs.Lattice.{add, add_all}
use Rattle.lattice.specs.Kept.{Holds, SameBehind}
use Rattle.lattice_add.proofs.GivenLaws.{given_stands}
use Rattle.pass_list.specs.StoredEdge.{nil, cons}
use Rattle.numbers.specs.CallEdge.{CallEdge, CallEdges}
use Rattle.std.specs.Prelude.{Result, Ok}
use Rattle.text.specs.declared.Offset.{Offset}

-- ---- what the check shows: the k edges from an offset on are whole, regular and sound
pub record Regular (n : ℕ) (s : List ℕ) (at : ℕ) : Type 0 where
  pub whole : next_at s at ≤ length s
  pub map : map_at s at ≡ 0
  pub content : sound n (edge_at s at) ≡ true

unfoldable pub Regulars : ℕ → ℕ → List ℕ → ℕ → Type 0
Regulars n zero s at = at ≤ length s
Regulars n (suc k) s at = Regular n s at × Regulars n k s (next_at s at)

regular_there : (n : ℕ) (s : List ℕ) (at : ℕ) → good true n s at ≡ true → Regular n s at
unfolding good allowed
regular_there n s at g =
    let t = (and-true (leb (next_at s at) (length s)) (eqb (map_at s at) 0 && sound n (edge_at s at)) g).1 in
    let p = and-true (eqb (map_at s at) 0) (sound n (edge_at s at)) t in
    record { whole = good_whole true n s at g; map = eqb-true (map_at s at) 0 p.0; content = p.1 }

checked : (n : ℕ) (s : List ℕ) (k at m : ℕ) → at ≤ length s → check_edges true n s k at ≡ Ok m → (m ≡ le_at s 0 2) × Regulars n k s at
unfolding check_edges Regulars
checked n s zero at m h =
    cond_cases (λ (r : Result ℕ Offset). r ≡ Ok m → (m ≡ le_at s 0 2) × (at ≤ length s)) (ltb at (length s))
    (λ t e. let z : ◌≡◌ {A = ℕ} 0 1 = cc in absurd (omega arith))
    (λ t e. (cc, h))
checked n s (suc k) at m h =
    cond_cases (λ (r : Result ℕ Offset). r ≡ Ok m → (m ≡ le_at s 0 2) × (Regular n s at × Regulars n k s (next_at s at))) (good true n s at)
    (λ g e. let r = checked n s k (next_at s at) m (good_whole true n s at g) e in (r.0, (regular_there n s at g, r.1)))
    (λ g e. let z : ◌≡◌ {A = ℕ} 0 1 = cc in absurd (omega arith))

pub checked_given : (n : ℕ) (s : List ℕ) (k : ℕ) → check_listing true n s ≡ Ok k → (k ≡ le_at s 0 2) × Regulars n k s 2
unfolding check_listing
checked_given n s k =
    cond_cases (λ (r : Result ℕ Offset). r ≡ Ok k → (k ≡ le_at s 0 2) × Regulars n k s 2) (leb 2 (length s))
    (λ t e. let r = checked n s (le_at s 0 2) 2 k (leb-true 2 (length s) t) e in (r.0, rw r.0 r.1))
    (λ t e. let z : ◌≡◌ {A = ℕ} 0 1 = cc in absurd (omega arith))

-- one that is left
module _ (n : ℕ) (s : List ℕ) (at k : ℕ) (h : 0 < k) (r : Regulars n k s at) where
  one_left : k ≡ suc (k - 1)
  one_left = omega arith

  step : Regulars n (suc (k - 1)) s at
  step = rw one_left at r

  pub regular_first : Regular n s at
  unfolding Regulars
  regular_first = step.0

  pub regular_rest : Regulars n (k - 1) s (next_at s at)
  unfolding Regulars
  regular_rest = step.1

  edges_first : edges_at k s at ≡ edge_at s at ∷ edges_at (k - 1) s (next_at s at)
  unfolding edges_at
  edges_first = ap (λ (j : ℕ). edges_at j s at) one_left

  pub regular_at : at ≤ length s
  regular_at = let m = map_within s at (length s) regular_first.whole in omega arith

-- ---- the walk: k edges are left from an offset on
pub record Adding (w₀ : List ℕ) (l₀ : Lattice) (s : List ℕ) (w : List ℕ) (l : Lattice) (at k : ℕ) : Type 0 where
  pub n : ℕ
  pub regular : Regulars n k s at
  pub long : length w ≡ length w₀
  pub frame : SameBehind w₀ w
  pub holds : (es : List Edge) → Holds w₀ l₀ es → (ds : List Edge) × Holds w l ds × (add_all ds (edges_at k s at) ≡ add_all es (listed s))

pub add_start : (w : List ℕ) (l : Lattice) (s : List ℕ) (count n : ℕ) → check_listing true n s ≡ Ok count → Adding w l s w l 2 count
add_start w l s count n e =
    let r = checked_given n s count e in
    record { n = n; regular = r.1; long = refl; frame = refl; holds = λ es q. (es, q, rw r.0) }

module _ {w₀ : List ℕ} {l₀ : Lattice} {s w : List ℕ} {l : Lattice} {at k : ℕ} (a : Adding w₀ l₀ s w l at k) where
  pub add_next : 0 < k → {v : List ℕ} {m : Lattice} {next : ℕ} → next ≡ next_at s at → length v ≡ length w → SameBehind w v
      → ((es : List Edge) → Holds w l es → Holds v m (add es (edge_at s at))) → Adding w₀ l₀ s v m next (k - 1)
  unfolding add_all
  add_next h {v} {m} e y f g = record {
    n = a.n;
    regular = rw e (regular_rest a.n s at k h a.regular);
    long = y ∙ a.long;
    frame = f ∙ a.frame;
    holds = λ es q. let d = a.holds es q in (add d.0 (edge_at s at), g d.0 d.1, rw e (sym (ap (add_all d.0) (edges_first a.n s at k h a.regular)) ∙ d.2));
  }

  pub add_end : k ≤ 0 → (es : List Edge) → Holds w₀ l₀ es → Holds w l (add_all es (listed s))
  unfolding add_all edges_at
  add_end h es q =
      let d = a.holds es q in
      let z : k ≡ 0 = omega arith in
      let e : d.0 ≡ add_all es (listed s) = rw z at d.2 in
      rw e at d.1

-- ---- they are edges of the call: regular, and legal over the line
pub no_data : (s : List ℕ) (at : ℕ) → map_at s at ≡ 0 → (edge_at s at).num ≡ none
unfolding edge_at
no_data s at m = rw m

module _ (n : ℕ) (s : List ℕ) (bytes : (i : ℕ) → get_or s i 0 < 256) where
  call_edge : (at : ℕ) → Regular n s at → CallEdge n (edge_at s at)
  unfolding allowed
  call_edge at r =
      let d = no_data s at r.map in
      let f = (given_stands s bytes at (next_at s at) r.map refl r.whole).fits in
      let never : (x : Numeric) → (edge_at s at).num ≡ some x → ⊥ = λ x e. some-ne-none x (sym e ∙ d) in
      record {
        legal = record {
          fits = record { start = f.start; end = f.end; type = f.type; txt = f.txt; num = λ x e. absurd (never x e) };
          map = rw d;
          content = r.content;
        };
        short = λ x e. absurd (never x e);
        value = λ x b e g. absurd (never x e);
      }

  call_edges : (k at : ℕ) → Regulars n k s at → CallEdges n (edges_at k s at)
  unfolding Regulars edges_at
  call_edges zero at r = nil
  call_edges (suc k) at r = cons (call_edge at r.0) (call_edges k (next_at s at) r.1)

  pub given_call : (count : ℕ) → check_listing true n s ≡ Ok count → CallEdges n (listed s)
  given_call count e = let r = checked_given n s count e in rw r.0 at (call_edges count 2 r.1)
