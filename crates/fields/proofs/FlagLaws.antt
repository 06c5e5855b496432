-- Laws of flags (specs/Flag.antt), for the proofs of the crates above. No contract cites this file. Assumes nothing.
use mathlib.Core.Path.{◌≡◌, refl, sym}
use mathlib.Core.Bool.{Bool, true, false}
use mathlib.Core.Option.{Option, none, some}
use Prim.Native.Nat.{ℕ, ◌≤◌, ◌<◌}
use native.Mathlib.Omega.{arith}
use lib.Dec.{eqb}
use borrow.Author.Tests.{eqb-true, eqb-false}
use Rattle.fields.specs.Flag.{there, flag}

pub there_le : {A : Type 0} (x : Option A) → there x ≤ 1
there_le none = omega arith
there_le (some a) = omega arith

pub flag_le : (b : Bool) → flag b ≤ 1
flag_le true = omega arith
flag_le false = omega arith

-- what a flag says is read back, and what is read is the flag
pub flag_stands : (b : Bool) → eqb (flag b) 1 ≡ b
flag_stands true = refl
flag_stands false = refl

pub flag_is : (k : ℕ) → k < 2 → flag (eqb k 1) ≡ k
flag_is k h = go (eqb k 1) refl
  where
    go : (b : Bool) → eqb k 1 ≡ b → flag b ≡ k
    go true e = sym (eqb-true k 1 e)
    go false e = let d = eqb-false k 1 e in omega arith
