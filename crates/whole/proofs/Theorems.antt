-- What `whole` promises beyond the contracts of its functions: on 01's domain f64 arithmetic is that of whole numbers, and decimal text is faithful. Each is a citation.
-- Assumes nothing.
use Rattle.std.proofs.Common.{◌≡◌, ℕ, ◌+◌, ◌*◌, ◌<◌, ◌≤◌, false, ltb, map, length, get_or, ap, ◌∙◌, arith, lit≤}
use lib.Ieee.{binary64, mul, add, lt, to_unsigned, to_bits, of_bits}
use lib.Ieee.Exact.{HasValue}
use Rattle.whole.specs.Whole.{TOP, of_nat}
use Rattle.whole.specs.Decimal.{decimal, digits_value, digit_of}
use Rattle.whole.proofs.WholeLaws.{of_nat-value, of_nat-mul, of_nat-add, of_nat-lt, of_nat-to_unsigned, of_nat-bits_back, of_nat-bits_injective}
use Rattle.whole.proofs.DecimalLaws.{AllDigits, decimal_digits, decimal_first, decimal_injective, digits_value-decimal, length_decimal_top}

module _ (m n : ℕ) (m-top : m ≤ TOP) (n-top : n ≤ TOP) where
  -- the f64 of a whole number is that number, and as a u64 it is that number again
  pub exact : HasValue (of_nat n) false n 1 × (to_unsigned 64 (of_nat n) ≡ n)
  exact = (of_nat-value n (omega arith), of_nat-to_unsigned n-top)

  -- 01: "Products and sums are f64; on this domain they're exact"
  pub product_exact : m * n ≤ TOP → to_unsigned 64 (mul binary64 (of_nat m) (of_nat n)) ≡ m * n
  product_exact h = ap (to_unsigned 64) (of_nat-mul m-top n-top) ∙ of_nat-to_unsigned h

  pub sum_exact : m + n ≤ TOP → to_unsigned 64 (add binary64 (of_nat m) (of_nat n)) ≡ m + n
  sum_exact h = ap (to_unsigned 64) (of_nat-add m-top n-top) ∙ of_nat-to_unsigned h

  -- a product or a sum is above TOP in f64 exactly where it is above TOP
  pub product_above_exact : lt (of_nat TOP) (mul binary64 (of_nat m) (of_nat n)) ≡ ltb TOP (m * n)
  product_above_exact = ap (lt (of_nat TOP)) (of_nat-mul m-top n-top) ∙ of_nat-lt (m * n) (lit≤ tt)

  pub sum_above_exact : lt (of_nat TOP) (add binary64 (of_nat m) (of_nat n)) ≡ ltb TOP (m + n)
  sum_above_exact = ap (lt (of_nat TOP)) (of_nat-add m-top n-top) ∙ of_nat-lt (m + n) (lit≤ tt)

  -- the bits that a listing has for a whole number are that number's alone
  pub bits_exact : (of_bits binary64 (to_bits binary64 (of_nat n)) ≡ of_nat n) × (to_bits binary64 (of_nat m) ≡ to_bits binary64 (of_nat n) → m ≡ n)
  bits_exact = (of_nat-bits_back n, of_nat-bits_injective m-top n-top)

  -- the decimal text of a value: at most 16 ASCII digits, no leading zero but in "0", no other number's, and its digits say the number
  pub decimal_faithful : (length (decimal n) ≤ 16) × AllDigits (decimal n) × (0 < n → 48 < get_or (decimal n) 0 0) × (decimal m ≡ decimal n → m ≡ n) × (digits_value (map digit_of (decimal n)) ≡ n)
  decimal_faithful = (length_decimal_top n n-top, decimal_digits n, decimal_first n, decimal_injective, digits_value-decimal n)
