-- An edge that is to be added to the lattice, as the steps find it. Definitions only.
--     Planned w l es e p to         p is what is to be done with e; where it goes into a bucket, it stands behind the listing up to the offset to
--     WrittenBehind w l es e n r    a writer of e, which has a key of n bytes, answered r: it had room, and e stands behind the listing
--     Assumes nothing.
use Rattle.std.specs.Prelude.{◌≡◌, List, ℕ, Option, Some, None}
use Rattle.edge.specs.Edge.{Edge}
use Rattle.lattice.specs.declared.Lattice.{Lattice}
use Rattle.lattice.specs.declared.Adding.{Adding}
use Rattle.lattice.specs.declared.Adding.TheVariants.{Into}
use Rattle.lattice.specs.Kept.{Holds, Stands, AddingIs}

pub record Planned (w : List ℕ) (l : Lattice) (es : List Edge) (e : Edge) (p : Adding) (to : ℕ) : Type 0 where
  pub holds : Holds w l es
  pub planned : AddingIs l es e p
  pub stands : (b : ℕ) → p ≡ Into b → (n : ℕ) × Stands w l.len n to e

pub record WrittenBehind (w : List ℕ) (l : Lattice) (es : List Edge) (e : Edge) (n : ℕ) (r : Option ℕ) : Type 0 where
  pub holds : Holds w l es
  pub placed : (to : ℕ) → r ≡ Some to → Stands w l.len n to e
  pub room : r ≡ None → ⊥
