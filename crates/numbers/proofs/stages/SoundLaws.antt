-- What it says that an edge may be listed: its span, its texts. No contract cites this file.
-- In order: one edge; the i-th edge of a lattice. Assumes nothing.
use mathlib.Core.Path.{◌≡◌, ap, ◌∙◌}
use mathlib.Core.Bool.{true, false, ◌&&◌}
use mathlib.Core.List.{List, ◌++◌}
use Prim.Native.Nat.{ℕ, ◌≤◌, ◌<◌}
use native.Mathlib.Omega.{arith}
use lib.ListN.{get_or}
use lib.Dec.{leb, ltb}
use borrow.Author.Tests.{leb-true, ltb-true, le-leb, lt-ltb}
use Rattle.text.specs.Text.{well_formed, is_nil}
use Rattle.text.proofs.RowLaws.{and-true}
use Rattle.text.proofs.TextLaws.{left_append}
use Rattle.edge.specs.Edge.{Edge}
use Rattle.edge.specs.Layout.{edge_at}
use Rattle.edge.specs.Check.{each, sound_numeric, sound}
use Rattle.edge.specs.Legal.{Legal}
use Rattle.paths.specs.Reading.{Spanned}
use Rattle.lattice.specs.declared.Lattice.{Lattice}
use Rattle.lattice.specs.Kept.{no_edge, offset, Holds}
use Rattle.numbers.specs.CallEdge.{Legals}
use Rattle.lattice.proofs.HoldsLaws.{kept_of_lem}
use Rattle.numbers.proofs.stages.ReadLaws.{every_at, edge_of_one}

-- ---- one edge
pub record Sound (n : ℕ) (e : Edge) : Type 0 where
  pub rises : e.start < e.end
  pub within : e.end ≤ n
  pub type : well_formed e.type ≡ true
  pub txt : well_formed e.txt ≡ true
  pub num : each sound_numeric e.num ≡ true

pub sound_of : (n : ℕ) (e : Edge) → sound n e ≡ true → Sound n e
unfolding sound
sound_of n e h =
    let a = and-true ((ltb e.start e.end && leb e.end n) && (well_formed e.type && well_formed e.txt)) (each sound_numeric e.num) h in
    let b = and-true (ltb e.start e.end && leb e.end n) (well_formed e.type && well_formed e.txt) a.0 in
    let c = and-true (ltb e.start e.end) (leb e.end n) b.0 in
    let d = and-true (well_formed e.type) (well_formed e.txt) b.1 in
    record { rises = ltb-true e.start e.end c.0; within = leb-true e.end n c.1; type = d.0; txt = d.1; num = a.1 }

pub sound_is : (n : ℕ) (e : Edge) → Sound n e → sound n e ≡ true
unfolding sound
sound_is n e s = rw (lt-ltb e.start e.end s.rises, le-leb e.end n s.within, s.type, s.txt, s.num)

-- texts in a row
pub formed_append : (s t : List ℕ) → well_formed s ≡ true → well_formed t ≡ true → well_formed (s ++ t) ≡ true
formed_append s t h k = ap is_nil (left_append s h t) ∙ k

-- ---- the i-th edge of a lattice that is not full
module _ {w : List ℕ} {l : Lattice} {es : List Edge} (q : Holds w l es) (f : (l.len ≡ 0 → ⊥)) (i : ℕ) (x : i < l.count) {at : ℕ} (here : at ≡ offset es i) {n : ℕ} where
  -- of a lattice of which only this edge is known to be legal
  pub one_spanned : Legal false n (get_or es i no_edge) → n ≤ 256 → Spanned 256 w at
  one_spanned legal few =
      let t = edge_of_one q f i x legal in
      let s = sound_of n (get_or es i no_edge) legal.content in
      let y = t.inside in
      let r = q.room in
      let m = q.short in
      let b = s.within in
      rw here (record { whole = omega arith; rises = rw t.is s.rises; within = rw t.is (omega arith); numeric = rw t.is s.num })

  module _ (legals : Legals n es) where
    legal_at : Legal false n (get_or es i no_edge)
    legal_at = every_at no_edge legals (let z = (kept_of_lem q f).count in omega arith)

    pub spanned_at : n ≤ 256 → Spanned 256 w at
    spanned_at few = one_spanned legal_at few

    pub read_at : edge_at w at ≡ get_or es i no_edge
    read_at = ap (edge_at w) here ∙ (edge_of_one q f i x legal_at).is
