-- Written decimals and products by computation. Assumes nothing.
use mathlib.Core.Path.{◌≡◌, refl}
use Prim.Native.Nat.{◌*◌, ◌^◌}
use lib.Ieee.{binary64, div, of_int, to_bits}
use Rattle.whole.specs.Whole.{of_nat}
use Rattle.wide.specs.Numbers.{exact_quotient}
use Rattle.decimals.specs.Quotient.{quotient}
use Rattle.std.specs.Prelude.{Some, None, Ok, Err}
use Rattle.whole.specs.Answers.{above_top}

-- 1.5, 0.1, 2.50, 9.007199254740991, and 100.0, which has the bits of 100
pub quotient_cases :
    (to_bits binary64 (quotient 15 1) ≡ 0x3FF8_0000_0000_0000)
    × (to_bits binary64 (quotient 1 1) ≡ 0x3FB9_9999_9999_999A)
    × (to_bits binary64 (quotient 250 2) ≡ 0x4004_0000_0000_0000)
    × (to_bits binary64 (quotient 9007199254740991 15) ≡ 0x4022_03AF_9EE7_5615)
    × (to_bits binary64 (quotient 1000 1) ≡ to_bits binary64 (of_nat 100))
unfolding quotient of_nat of_int div to_bits
quotient_cases = (refl, refl, refl, refl, refl)

-- 1.5 × 10000; 1.23 × 10; a product that is TOP, one that is TOP + 1, and a larger one that is not whole
pub product_cases :
    (exact_quotient (15 * 10000) (10 ^ 1) ≡ Ok (Some 15000))
    × (exact_quotient (123 * 10) (10 ^ 2) ≡ Ok None)
    × (exact_quotient (9007199254740991 * 1000) (10 ^ 3) ≡ Ok (Some 9007199254740991))
    × (exact_quotient (9007199254740990 * 9007199254740992) (10 ^ 1) ≡ Err above_top)
    × (exact_quotient (9007199254740991 * 9007199254740991) (10 ^ 15) ≡ Ok None)
product_cases = (refl, refl, refl, refl, refl)
