-- A walk over the lattice from its front that turns edges inactive where a test says so: for the loop of the stage's code. No contract cites this file.
--     quieted test e     the edge e, inactive if it meets the test
--     turned test es i   the edges es, the first i of them looked at
-- Assumes nothing.
use mathlib.Core.Path.{◌≡◌, refl, ap}
use mathlib.Core.Bool.{Bool, true, false, cond}
use mathlib.Core.List.{List, [], ◌∷◌, map}
use Prim.Native.Nat.{ℕ, zero, suc, ◌<◌}
use native.Mathlib.Omega.{arith}
use lib.ListN.{length, get_or}
use Rattle.edge.specs.Edge.{Edge}
use Rattle.lattice.specs.Lattice.{inactive, turn_off_at}
use Rattle.lattice.specs.Kept.{no_edge}

module _ (test : Edge → Bool) where
  abbrev pub quieted : Edge → Edge
  quieted e = cond (test e) (inactive e) e

  unfoldable pub turned : List Edge → ℕ → List Edge
  turned es zero = es
  turned [] (suc i) = []
  turned (e ∷ es) (suc i) = quieted e ∷ turned es i

  -- the edge that is looked at next is as it was
  pub turned_next : (es : List Edge) (i : ℕ) → get_or (turned es i) i no_edge ≡ get_or es i no_edge
  unfolding turned
  turned_next es zero = refl
  turned_next [] (suc i) = refl
  turned_next (e ∷ es) (suc i) = turned_next es i

  -- a turn of the loop: the edge meets the test, or it does not
  pub turn_on : (es : List Edge) (i : ℕ) → i < length es → test (get_or es i no_edge) ≡ true → turn_off_at (turned es i) i ≡ turned es (suc i)
  unfolding turned turn_off_at
  turn_on [] i h t = absurd (omega arith)
  turn_on (e ∷ es) zero h t = rw t
  turn_on (e ∷ es) (suc i) h t = ap (λ (ds : List Edge). quieted e ∷ ds) (turn_on es i (omega arith) t)

  pub turn_off_lem : (es : List Edge) (i : ℕ) → test (get_or es i no_edge) ≡ false → turned es i ≡ turned es (suc i)
  unfolding turned
  turn_off_lem [] zero t = refl
  turn_off_lem [] (suc i) t = refl
  turn_off_lem (e ∷ es) zero t = rw t
  turn_off_lem (e ∷ es) (suc i) t = ap (λ (ds : List Edge). quieted e ∷ ds) (turn_off_lem es i t)

  -- at its end
  pub turned_all : (es : List Edge) → turned es (length es) ≡ map quieted es
  unfolding turned
  turned_all [] = refl
  turned_all (e ∷ es) = ap (λ (ds : List Edge). quieted e ∷ ds) (turned_all es)
