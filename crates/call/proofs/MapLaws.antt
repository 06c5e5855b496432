-- What `map_err` made an answer of, from what it ensures. No contract cites this file. Assumes nothing.
use mathlib.Core.Path.{◌≡◌, refl}
use Prim.Native.Nat.{ℕ}
use native.Mathlib.Omega.{arith}
use Rattle.std.specs.Prelude.{Result, Ok, Err, MatchResult}

pub mapped_err : {T E D : Type 0} (r : Result T E) (d : D) (Q : E → Type 0) → MatchResult r (λ x. ◌≡◌ {A = Result T D} (Err d) (Ok x)) Q → (e : E) × (r ≡ Err e) × Q e
mapped_err (Ok x) d Q h = absurd (let z : ◌≡◌ {A = ℕ} 0 1 = cc in omega (arith, z))
mapped_err (Err e) d Q h = (e, refl, h)

pub mapped_ok : {T E : Type 0} (D : Type 0) (r : Result T E) (x : T) → MatchResult r (λ y. ◌≡◌ {A = Result T D} (Ok x) (Ok y)) (λ e. ⊥) → r ≡ Ok x
mapped_ok D (Ok y) x h = let z : x ≡ y = cc in rw z refl
mapped_ok D (Err e) x h = absurd h
