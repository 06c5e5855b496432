-- Laws of `value` (`specs/Answers.antt`): what each case of an answer says of the whole number, for callers. No contract cites this file.
-- Assumes nothing.
use Rattle.std.proofs.Common.{◌≡◌, ℕ, ◌<◌, ◌≤◌, Bool, true, false, cond, ltb, refl, arith, ltb-false, ltb-true, Ok, Err}
use lib.Ieee.{Float}
use Rattle.whole.specs.Whole.{TOP, of_nat}
use Rattle.whole.specs.Answers.{value}
use Rattle.whole.specs.Answers.{above_top}

-- which of two answers it is tells on which side of TOP n is
module _ {A : Type 0} (n : ℕ) (over under : A) {r : A} (answer : cond (ltb TOP n) over under ≡ r) where
  is_under : (over ≡ r → ⊥) → (n ≤ TOP) × (under ≡ r)
  is_under f = go (ltb TOP n) (ltb-false TOP n) answer
    where
      go : (above : Bool) → (above ≡ false → n ≤ TOP) → cond above over under ≡ r → (n ≤ TOP) × (under ≡ r)
      go true g e = absurd (f e)
      go false g e = (g refl, e)

  is_over : (under ≡ r → ⊥) → TOP < n
  is_over f = go (ltb TOP n) (ltb-true TOP n) answer
    where
      go : (above : Bool) → (above ≡ true → TOP < n) → cond above over under ≡ r → TOP < n
      go true g e = g refl
      go false g e = absurd (f e)

pub value_fits : (n : ℕ) {x : Float} → value n ≡ Ok x → (n ≤ TOP) × (x ≡ of_nat n)
value_fits n e =
    let u = is_under n (Err above_top) (Ok (of_nat n)) e (λ c. let z : ◌≡◌ {A = ℕ} 0 1 = cc in omega arith) in
    (u.0, cc u.1)

pub value_above : (n : ℕ) → value n ≡ Err above_top → TOP < n
value_above n e = is_over n (Err above_top) (Ok (of_nat n)) e (λ c. let z : ◌≡◌ {A = ℕ} 0 1 = cc in omega arith)
