-- The f64 constants of the source as numbers, for this crate's proofs. No contract cites this file.
-- Assumes nothing.
use mathlib.Core.Path.{◌≡◌, refl}
use lib.Ieee.{of_bits, of_int, binary64}
use Rattle.whole.specs.Whole.{of_nat}

pub of_nat-ten : of_bits binary64 0x4024_0000_0000_0000 ≡ of_nat 10
unfolding of_bits of_nat of_int
of_nat-ten = refl

pub of_nat_zero : of_bits binary64 0 ≡ of_nat 0
unfolding of_bits of_nat of_int
of_nat_zero = refl
