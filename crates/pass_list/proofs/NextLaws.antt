-- A law of `next` (specs/StoredPass.antt), for the proofs of the crates above. No contract cites this file.
-- Assumes nothing.
use mathlib.Core.Path.{◌≡◌, refl}
use mathlib.Core.Bool.{Bool, true, false, cond}
use mathlib.Core.Option.{none, some}
use Prim.Native.Nat.{ℕ}
use native.Mathlib.Omega.{arith}
use Rattle.passes.specs.Passes.{Pass}
use Rattle.pass_list.specs.StoredEdge.{StoredEdge}
use Rattle.pass_list.specs.StoredPass.{StoredChain, joins, longer, next}

-- a chain that `next` gives is the longer one, and the pass joins
pub joins_of_next : (p : Pass) (x : StoredChain) (y : StoredEdge) (t : StoredChain) → next p x y ≡ some t → (joins p x y ≡ true) × (t ≡ longer p x y)
unfolding next
joins_of_next p x y t e = go (joins p x y) e
  where
    go : (b : Bool) → cond b (some (longer p x y)) none ≡ some t → (b ≡ true) × (t ≡ longer p x y)
    go true e = (refl, cc)
    go false e = absurd (let z : ◌≡◌ {A = ℕ} 0 1 = cc in omega arith)
