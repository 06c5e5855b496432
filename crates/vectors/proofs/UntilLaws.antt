-- Laws of `until_byte` (`specs/Until.antt`): how long it is, by std's `position`. No contract cites this file.
use mathlib.Core.Path.{◌≡◌, refl}
use mathlib.Core.List.{List, [], ◌∷◌}
use mathlib.Core.Bool.{Bool, true, false, cond}
use Prim.Native.Nat.{ℕ, suc, ◌+◌, ◌≤◌, ◌<◌}
use native.Mathlib.Omega.{arith}
use lib.ListN.{length}
use lib.Dec.{eqb, ltb}
use borrow.Author.Tests.{ltb-true, ltb-false}
use Rattle.std.specs.Prelude.{Option, Some, None}
use Rattle.std.specs.List.{position, position_or_len}
use Rattle.std.proofs.lemmas.List.Recursion.{is_position_or_len}
use Rattle.vectors.specs.Until.{until_byte}

module _ (b : ℕ) where
  abbrev is : ℕ → Bool
  is x = eqb x b

  length_until : (s : List ℕ) → length (until_byte b s) ≡ position_or_len is s
  unfolding until_byte
  length_until = is_position_or_len (λ s. length (until_byte b s)) is refl (λ x s. by (eqb x b) x s)
    where
      by : (e : Bool) (x : ℕ) (s : List ℕ) → length (cond e [] (x ∷ until_byte b s)) ≡ cond e 0 (1 + length (until_byte b s))
      by true x s = refl
      by false x s = omega arith

  until_le : (s : List ℕ) → length (until_byte b s) ≤ length s
  unfolding until_byte
  until_le [] = omega arith
  until_le (x ∷ s) = by (eqb x b) (until_le s)
    where
      by : (e : Bool) → length (until_byte b s) ≤ length s → length (cond e [] (x ∷ until_byte b s)) ≤ suc (length s)
      by true h = omega arith
      by false h = omega arith

  module _ (s : List ℕ) where
    pub until_some : (i : ℕ) → Some i ≡ position is s → (i ≡ length (until_byte b s)) × (i < length s)
    until_some i e = by (ltb (position_or_len is s) (length s)) refl e
      where
        by : (t : Bool) → ltb (position_or_len is s) (length s) ≡ t → Some i ≡ cond {A = Option ℕ} t (Some (position_or_len is s)) None → (i ≡ length (until_byte b s)) × (i < length s)
        by true h e =
            let same : i ≡ position_or_len is s = cc in
            let l = length_until s in
            (omega arith, let k = ltb-true (position_or_len is s) (length s) h in omega arith)
        by false h e = let z : ◌≡◌ {A = ℕ} 0 1 = cc in absurd (omega arith)

    pub until_none : None ≡ position is s → length s ≡ length (until_byte b s)
    until_none e = by (ltb (position_or_len is s) (length s)) refl e
      where
        by : (t : Bool) → ltb (position_or_len is s) (length s) ≡ t → None ≡ cond {A = Option ℕ} t (Some (position_or_len is s)) None → length s ≡ length (until_byte b s)
        by true h e = let z : ◌≡◌ {A = ℕ} 0 1 = cc in absurd (omega arith)
        by false h e = let k = ltb-false (position_or_len is s) (length s) h in omega (arith, until_le s, length_until s)
