-- What is promised of the number that is given (02, S-14), without a walk: for the theorems. Definitions only.
--     NoNumber xs          none of the edges xs is numeric and active
--     Given p xs x         x is the number of the list xs that the order puts before every other: it comes before those that stand before it in the list, by
--                          distance, start or length; and none of those that stand behind it comes before it
-- Assumes nothing.
use Prim.Native.Nat.{ℕ}
use mathlib.Core.Path.{◌≡◌}
use mathlib.Core.Bool.{true, false}
use mathlib.Core.List.{List, ◌∷◌, ◌++◌}
use Rattle.edge.specs.Edge.{Edge}
use Rattle.paths.proofs.BestLaws.{Each}
use Rattle.nearest_number.specs.Nearest.{is_number, comes_first}

abbrev pub NoNumber : List (ℕ × Edge) → Type 0
NoNumber xs = Each (λ y. is_number y.1 ≡ false) xs

-- a number y does not come before x
abbrev pub NotBefore : ℕ → ℕ × Edge → ℕ × Edge → Type 0
NotBefore p x y = is_number y.1 ≡ true → comes_first p y.1 x.1 ≡ false

-- x comes before a number y
abbrev pub Before : ℕ → ℕ × Edge → ℕ × Edge → Type 0
Before p x y = is_number y.1 ≡ true → comes_first p x.1 y.1 ≡ true

pub record Given (p : ℕ) (xs : List (ℕ × Edge)) (x : ℕ × Edge) : Type 0 where
  pub front : List (ℕ × Edge)
  pub back : List (ℕ × Edge)
  pub split : xs ≡ front ++ (x ∷ back)
  pub number : is_number x.1 ≡ true
  pub before : Each (Before p x) front
  pub behind : Each (NotBefore p x) back
