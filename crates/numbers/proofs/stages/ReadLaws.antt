-- What the bytes of a lattice say: each of its edges is read where it stands. For the stages of the call.
-- In order: properties of each element; the i-th edge. Assumes nothing.
use mathlib.Core.Path.{◌≡◌}
use mathlib.Core.Bool.{false}
use mathlib.Core.List.{List, [], ◌∷◌}
use Prim.Native.Nat.{ℕ, zero, suc, ◌+◌, ◌≤◌, ◌<◌}
use native.Mathlib.Numerals.{add-one}
use native.Mathlib.Omega.{arith}
use lib.ListN.{length, take, get_or}
use lib.Seq.{take-suc}
use Rattle.edge.specs.Edge.{Edge, map_of, edge_bytes, EdgeFits}
use Rattle.edge.specs.Layout.{map_at, next_at, edge_at}
use Rattle.edge.specs.Legal.{Legal}
use Rattle.edge.proofs.theorems.ReadBackLaws.{edge_there}
use Rattle.lattice.specs.declared.Lattice.{Lattice}
use Rattle.lattice.specs.Kept.{no_edge, offset, Holds}
use Rattle.lattice.proofs.KeptLaws.{length_edges_snoc, begins, edge_stands, offset_in}
use Rattle.lattice.proofs.HoldsLaws.{kept_of_lem}
use Rattle.pass_list.specs.StoredEdge.{Every, nil, cons}
use Rattle.numbers.specs.CallEdge.{Legals, CallEdges}

-- ---- properties of each element
pub every_at : {A : Type 0} {P : A → Type 0} {es : List A} {i : ℕ} (d : A) → Every P es → i < length es → P (get_or es i d)
every_at {es = []} d nil h = absurd (omega arith)
every_at {es = e ∷ es} {i = zero} d (cons p q) h = p
every_at {es = e ∷ es} {i = suc i} d (cons p q) h = every_at d q (omega arith)

-- an edge of the call may be listed
pub call_legals : {n : ℕ} {es : List Edge} → CallEdges n es → Legals n es
call_legals {es = []} nil = nil
call_legals {es = e ∷ es} (cons c cs) = cons c.legal (call_legals cs)

-- ---- the i-th edge
pub offset_next : (es : List Edge) (i : ℕ) → i < length es → offset es (i + 1) ≡ offset es i + length (edge_bytes (get_or es i no_edge))
unfolding offset
offset_next es i h = rw (add-one i, take-suc es i no_edge h) (let l = length_edges_snoc (take i es) (get_or es i no_edge) in omega arith)

-- the i-th edge of es stands in the first len bytes of w
pub record EdgeThere (n : ℕ) (w : List ℕ) (len : ℕ) (es : List Edge) (i : ℕ) : Type 0 where
  pub is : edge_at w (offset es i) ≡ get_or es i no_edge
  pub map : map_at w (offset es i) ≡ map_of (get_or es i no_edge).num
  pub next : next_at w (offset es i) ≡ offset es (i + 1)
  pub inside : next_at w (offset es i) ≤ len
  pub fits : EdgeFits (get_or es i no_edge)
  pub legal : Legal false n (get_or es i no_edge)

-- of a lattice of which only this edge is known to be legal
pub edge_of_one : {n : ℕ} {w : List ℕ} {l : Lattice} {es : List Edge} → Holds w l es → (l.len ≡ 0 → ⊥) → (i : ℕ) → i < l.count → Legal false n (get_or es i no_edge) → EdgeThere n w l.len es i
edge_of_one {w = w} {l} {es} q f i x legal =
    let k = kept_of_lem q f in
    let c : i < length es = let z = k.count in omega arith in
    let r = edge_there w (offset es i) _ (get_or es i no_edge) legal.fits (begins w (offset es i) (edge_bytes (get_or es i no_edge)) (edge_stands k i x)) in
    let e = r.ends in
    let o = offset_next es i c in
    let y = offset_in k i x in
    record { is = r.is; map = r.map; next = omega arith; inside = omega arith; fits = legal.fits; legal = legal }

pub edge_of : {n : ℕ} {w : List ℕ} {l : Lattice} {es : List Edge} → Holds w l es → (l.len ≡ 0 → ⊥) → Legals n es → (i : ℕ) → i < l.count → EdgeThere n w l.len es i
edge_of {l = l} {es} q f legals i x = edge_of_one q f i x (every_at no_edge legals (let z = (kept_of_lem q f).count in omega arith))
