-- Laws of `Holds`: stores and edges that leave a lattice as it is. No contract cites this file.
-- In order: what lies behind the lattice; stores beside the listing and the cells; a list that is over stays so; edges added in a row; an edge that is not added. Assumes nothing.
use mathlib.Core.Path.{◌≡◌, refl, ◌∙◌}
use mathlib.Core.Logic.{◌⊎◌, inl, inr}
use mathlib.Core.Bool.{Bool, true, false, cond, ◌||◌}
use mathlib.Core.List.{List, [], ◌∷◌, ◌++◌}
use Prim.Native.Nat.{ℕ, ◌+◌, ◌*◌, ◌≤◌, ◌<◌}
use native.Mathlib.Omega.{arith}
use lib.ListN.{length, length-append}
use lib.Seq.{sets, length-sets}
use lib.Dec.{ltb}
use borrow.Author.Tests.{lt-ltb, ltb-true}
use Rattle.fields.proofs.PartLaws.{part_sets_other}
use Rattle.edge.specs.Edge.{Edge, edges_bytes, listing_bytes}
use Rattle.lattice.specs.declared.Lattice.{Lattice}
use Rattle.lattice.specs.declared.Adding.TheVariants.{Nothing}
use Rattle.lattice.specs.Lattice.{has, add, add_all, overfull}
use Rattle.lattice.specs.Kept.{END, OFFSETS, NEXTS, HEADS, cell, Kept, Holds, AddingIs, SameBehind}
use Rattle.lattice.proofs.KeptLaws.{length_edges_snoc, length_listing, cell_other}

-- ---- what lies behind the lattice, of plain lists: as a place of the code has the two sides, antt takes half a second to compare them
pub behind_same : (u w : List ℕ) → SameBehind u w → SameBehind u w
behind_same u w p = p

pub behind_twice : (u v w : List ℕ) → SameBehind v w → SameBehind u v → SameBehind u w
behind_twice u v w p q = p ∙ q

-- ---- a lattice that is not full is kept, one that is full is over
module _ {w : List ℕ} {l : Lattice} {es : List Edge} (q : Holds w l es) where
  pub kept_of_lem : (l.len ≡ 0 → ⊥) → Kept w l.count l.len es
  kept_of_lem f = go q.state
    where
      go : ((l.len ≡ 0) × (overfull es ≡ true)) ⊎ ((l.len ≡ 0 → ⊥) × Kept w l.count l.len es) → Kept w l.count l.len es
      go (inl x) = absurd (f x.0)
      go (inr x) = x.1

  pub over_of : l.len ≡ 0 → overfull es ≡ true
  over_of f = go q.state
    where
      go : ((l.len ≡ 0) × (overfull es ≡ true)) ⊎ ((l.len ≡ 0 → ⊥) × Kept w l.count l.len es) → overfull es ≡ true
      go (inl x) = x.1
      go (inr x) = absurd (x.0 f)

-- ---- stores behind the listing and before the cells, or from END on
abbrev pub Beside : ℕ → ℕ → List ℕ → Type 0
Beside len i bs = (len ≤ i) × ((i + length bs ≤ OFFSETS) ⊎ (END ≤ i))

cell_beside : (w : List ℕ) (i : ℕ) (bs : List ℕ) (base j : ℕ) → OFFSETS ≤ base → base + 2 * j + 2 ≤ END → (i + length bs ≤ OFFSETS) ⊎ (END ≤ i) → cell (sets w i bs) base j ≡ cell w base j
cell_beside w i bs base j x y (inl z) = cell_other w i bs base j (inl (omega arith))
cell_beside w i bs base j x y (inr z) = cell_other w i bs base j (inr (omega arith))

kept_beside : {w : List ℕ} {n len : ℕ} {es : List Edge} → Kept w n len es → (i : ℕ) (bs : List ℕ) → Beside len i bs → Kept (sets w i bs) n len es
kept_beside {w} {n} {len} {es} q i bs a =
    let r = q.room in
    let f = q.few in
    let l = length-sets w i bs in
    record {
      room = omega arith;
      count = q.count;
      few = q.few;
      short = q.short;
      size = q.size;
      listing = part_sets_other w i bs 0 len (inr (omega (arith, a.0))) ∙ q.listing;
      fits = q.fits;
      offsets = λ j x. cell_beside w i bs OFFSETS j (omega arith) (omega arith) a.1 ∙ q.offsets j x;
      nexts = λ j x. cell_beside w i bs NEXTS j (omega arith) (omega arith) a.1 ∙ q.nexts j x;
      heads = λ j x. cell_beside w i bs HEADS j (omega arith) (omega arith) a.1 ∙ q.heads j x;
    }

pub holds_beside : {w : List ℕ} {l : Lattice} {es : List Edge} → Holds w l es → (i : ℕ) (bs : List ℕ) → Beside l.len i bs → Holds (sets w i bs) l es
holds_beside {w} {l} {es} q i bs a = record { room = let r = q.room in let x = length-sets w i bs in omega arith; short = q.short; state = go q.state }
  where
    go : ((l.len ≡ 0) × (overfull es ≡ true)) ⊎ ((l.len ≡ 0 → ⊥) × Kept w l.count l.len es)
        → ((l.len ≡ 0) × (overfull es ≡ true)) ⊎ ((l.len ≡ 0 → ⊥) × Kept (sets w i bs) l.count l.len es)
    go (inl x) = inl x
    go (inr x) = inr (x.0, kept_beside x.1 i bs a)

-- ---- a list that is over stays so
pub length_snoc : (es : List Edge) (e : Edge) → length (es ++ (e ∷ [])) ≡ length es + 1
length_snoc es e = length-append es (e ∷ [])

pub or_right : (t u : Bool) → u ≡ true → t || u ≡ true
or_right true u p = refl
or_right false u p = p

pub over_many : (es : List Edge) → 1024 < length es → overfull es ≡ true
unfolding overfull
over_many es h = rw (lt-ltb 1024 (length es) h)

pub over_long : (es : List Edge) → 32768 < 2 + length (edges_bytes es) → overfull es ≡ true
unfolding overfull
over_long es h = let e = length_listing es in or_right (ltb 1024 (length es)) (ltb 32768 (length (listing_bytes es))) (lt-ltb 32768 (length (listing_bytes es)) (omega arith))

over_snoc : (es : List Edge) (e : Edge) → overfull es ≡ true → overfull (es ++ (e ∷ [])) ≡ true
unfolding overfull
over_snoc es e h = go (ltb 1024 (length es)) refl h
  where
    go : (t : Bool) → ltb 1024 (length es) ≡ t → t || ltb 32768 (length (listing_bytes es)) ≡ true → overfull (es ++ (e ∷ [])) ≡ true
    go true p x = let a = ltb-true 1024 (length es) p in let b = length_snoc es e in over_many (es ++ (e ∷ [])) (omega arith)
    go false p x = let a = ltb-true 32768 (length (listing_bytes es)) x in let b = length_listing es in let d = length_edges_snoc es e in over_long (es ++ (e ∷ [])) (omega arith)

pub add_new : (es : List Edge) (e : Edge) → has es e ≡ false → add es e ≡ es ++ (e ∷ [])
unfolding add
add_new es e h = rw h

pub over_add : (es : List Edge) (e : Edge) → overfull es ≡ true → overfull (add es e) ≡ true
unfolding add
over_add es e h = go (has es e)
  where
    go : (t : Bool) → overfull (cond t es (es ++ (e ∷ []))) ≡ true
    go true = h
    go false = over_snoc es e h

pub add_all_append : (es cs ds : List Edge) → add_all es (cs ++ ds) ≡ add_all (add_all es cs) ds
unfolding add_all
add_all_append es [] ds = refl
add_all_append es (c ∷ cs) ds = add_all_append (add es c) cs ds

-- ---- an edge that is not added
module _ {w : List ℕ} {l : Lattice} {es : List Edge} (q : Holds w l es) (e : Edge) where
  pub add_nothing : AddingIs l es e Nothing → Holds w l (add es e)
  unfolding AddingIs add
  add_nothing (inl f) = record { room = q.room; short = q.short; state = inl (f, over_add es e (over_of q f)) }
  add_nothing (inr h) = rw h q
