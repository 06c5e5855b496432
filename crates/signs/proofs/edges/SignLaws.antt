-- Laws of the edges that signs give (`specs/SignEdges.antt`), for this crate's proofs and its callers'. No contract cites this file.
-- In order: one sign; the signs of a list one at a time; the line's first place. Assumes nothing.
use mathlib.Core.Path.{◌≡◌, refl, ap, ◌∙◌}
use mathlib.Core.Bool.{Bool, true, false, cond}
use mathlib.Core.List.{List, [], ◌∷◌, ◌++◌}
use Prim.Native.Nat.{ℕ, ◌-◌, ◌≤◌}
use native.Mathlib.Omega.{arith}
use lib.ListN.{length}
use lib.Dec.{leb}
use borrow.Author.Tests.{lt-leb, leb-true}
use Rattle.text.specs.Text.{chars}
use Rattle.text.proofs.RowLaws.{and-true}
use Rattle.table.specs.Table.{Text}
use Rattle.passes.specs.NumEdge.{NumEdge}
use Rattle.edge.specs.Edge.{Edge}
use Rattle.lattice.specs.declared.Lattice.{Lattice}
use Rattle.lattice.specs.Lattice.{add, add_all}
use Rattle.lattice.specs.Kept.{Holds}
use Rattle.pass_list.specs.StoredEdge.{nil, cons}
use Rattle.numbers.specs.Fractions.{stands_at}
use Rattle.numbers.specs.Signs.{ends_at, sign_edge, signed}
use Rattle.markers.specs.Marks.{sign_of}
use Rattle.markers.proofs.MarkLaws.{Legal, legal_count}
use Rattle.std.specs.Prelude.{Some, None}

-- ---- one sign
pub sign_fits : (w : List ℕ) (a : ℕ) (m : Text) {k : ℕ} → sign_of w a m ≡ Some k → k ≤ a
sign_fits w a m {k} e = go (ends_at w a m) refl e
  where
    go : (b : Bool) → ends_at w a m ≡ b → cond b (Some (length (chars m))) None ≡ Some k → k ≤ a
    go true t f = let q : length (chars m) ≡ k = cc in omega (arith, leb-true (length (chars m)) a (and-true (leb (length (chars m)) a) (stands_at w (a - length (chars m)) m) t).0)
    go false t f = let o : ◌≡◌ {A = ℕ} 0 1 = cc in absurd (omega arith)

-- before the passes' edge e, which starts at place a
module _ (w : List ℕ) (c : ℕ) (e : NumEdge) {a : ℕ} (at : a ≡ e.start) (m : Text) where
  module _ {k : ℕ} (f : sign_of w a m ≡ Some k) where
    sign_edge_lem : signed w c e (m ∷ []) ≡ sign_edge (a - k) c e ∷ []
    unfolding signed
    sign_edge_lem = rw (← at) (go (ends_at w a m) f)
      where
        go : (b : Bool) → cond b (Some (length (chars m))) None ≡ Some k → cond b (sign_edge (a - length (chars m)) c e ∷ []) [] ≡ sign_edge (a - k) c e ∷ []
        go true f = let q : length (chars m) ≡ k = cc in rw q
        go false f = let o : ◌≡◌ {A = ℕ} 0 1 = cc in absurd (omega arith)

    pub sign_added : {v : List ℕ} {l : Lattice} (es : List Edge) → Holds v l (add es (sign_edge (a - k) c e)) → Holds v l (add_all es (signed w c e (m ∷ [])))
    unfolding add_all
    sign_added es h = rw sign_edge_lem h

  module _ (f : sign_of w a m ≡ None) where
    no_edge : signed w c e (m ∷ []) ≡ []
    unfolding signed
    no_edge = rw (← at) (go (ends_at w a m) f)
      where
        go : (b : Bool) → cond b (Some (length (chars m))) None ≡ None → cond b (sign_edge (a - length (chars m)) c e ∷ []) [] ≡ []
        go true f = let o : ◌≡◌ {A = ℕ} 0 1 = cc in absurd (omega arith)
        go false f = refl

    pub sign_absent : {v : List ℕ} {l : Lattice} (es : List Edge) → Holds v l es → Holds v l (add_all es (signed w c e (m ∷ [])))
    unfolding add_all
    sign_absent es h = rw no_edge h

-- ---- the signs of a list, one at a time
module _ (w : List ℕ) (c : ℕ) (e : NumEdge) where
  signed_first : (m : Text) (ms : List Text) → signed w c e (m ∷ ms) ≡ signed w c e (m ∷ []) ++ signed w c e ms
  unfolding signed
  signed_first m ms = go (ends_at w e.start m) (sign_edge (e.start - length (chars m)) c e) (signed w c e ms)
    where
      go : (b : Bool) (x : Edge) (r : List Edge) → cond b (x ∷ r) r ≡ cond b (x ∷ []) [] ++ r
      go true x r = refl
      go false x r = refl

  module _ {left : List Text} where
    pub signs_turn : {m : Text} {more : List Text} → left ≡ m ∷ more → signed w c e left ≡ signed w c e (m ∷ []) ++ signed w c e more
    signs_turn {m} {more} q = ap (signed w c e) q ∙ signed_first m more

    pub signs_end : left ≡ [] → [] ≡ signed w c e left
    unfolding signed
    signs_end q = rw q

-- ---- no sign stands before the first place: none is empty
module _ (w : List ℕ) (c : ℕ) (e : NumEdge) (z : e.start ≡ 0) where
  pub signs_first : (ms : List Text) → Legal ms → signed w c e ms ≡ []
  unfolding signed
  signs_first [] nil = refl
  signs_first (m ∷ ms) (cons h hs) =
      let far : leb (length (chars m)) e.start ≡ false = lt-leb (length (chars m)) e.start (omega (arith, z, legal_count m h)) in
      rw far (signs_first ms hs)
