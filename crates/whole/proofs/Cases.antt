-- Examples of the definitions, both sides of each limit, by computation. Assumes nothing.
use Rattle.std.proofs.Common.{◌≡◌, ℕ, List, [], ◌∷◌, ◌++◌, map, replicate, refl}
use Rattle.whole.specs.Decimal.{decimal, decimal_within, digits_from, digits_value, digit_of}

-- the text of 0, 9, 10, 105
pub texts : (decimal 0 ≡ 48 ∷ []) × (decimal 9 ≡ 57 ∷ []) × (decimal 10 ≡ 49 ∷ 48 ∷ []) × (decimal 105 ≡ 49 ∷ 48 ∷ 53 ∷ [])
unfolding decimal decimal_within
texts = (refl, refl, refl, refl)

abbrev top_digits : List ℕ
top_digits = 57 ∷ 48 ∷ 48 ∷ 55 ∷ 49 ∷ 57 ∷ 57 ∷ 50 ∷ 53 ∷ 52 ∷ 55 ∷ 52 ∷ 48 ∷ 57 ∷ 57 ∷ 49 ∷ []

-- 01: "TOP's digits accepted"; leading zeros don't count
pub limits : (decimal 9007199254740991 ≡ top_digits) × (digits_value (map digit_of (replicate 200 48 ++ top_digits)) ≡ 9007199254740991)
unfolding decimal decimal_within digits_from
limits = (refl, refl)
