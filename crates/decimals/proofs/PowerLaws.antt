-- Powers of ten, up to the fifteenth. No contract cites this file. Assumes nothing.
use Prim.Native.Nat.{ℕ, ◌+◌, ◌*◌, ◌^◌, ◌≤◌, ◌<◌}
use mathlib.Core.Path.{◌≡◌, sym}
use native.Mathlib.Nat.{le_trans, pow-suc, pow-le-pow_right, one-le-pow}
use native.Mathlib.Numerals.{add-one}
use lib.Dec.{lit<, lit≤}
use Rattle.whole.specs.Whole.{TOP}

pub power_positive : (k : ℕ) → 0 < 10 ^ k
power_positive k = one-le-pow k 10 (lit< tt)

pub power_most : {k : ℕ} → k ≤ 15 → 10 ^ k ≤ 10 ^ 15
power_most h = pow-le-pow_right (lit< tt) h

-- each is an f64
pub power_top : {k : ℕ} → k ≤ 15 → 10 ^ k ≤ TOP
power_top h = le_trans (power_most h) (lit≤ tt)

pub power_next : (k : ℕ) → 10 ^ k * 10 ≡ 10 ^ (k + 1)
power_next k = rw (add-one k) (sym (pow-suc 10 k))
