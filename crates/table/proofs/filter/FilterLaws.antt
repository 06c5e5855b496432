-- Laws of `specs/Filter.antt`. No contract cites this file.
-- In order: one bit of a word with a bit more; a bit more in the filter; what stands before the filter; a look.
use mathlib.Core.Path.{◌≡◌, refl, sym, ap, ◌∙◌}
use mathlib.Core.Bool.{Bool, true, false, not}
use mathlib.Core.List.{List}
use Prim.Native.Nat.{ℕ, zero, suc, ◌*◌, ◌/◌, ◌%◌, ◌^◌, ◌<◌}
use native.Mathlib.Omega.{arith}
use native.Mathlib.Decide.{ℕ_discrete}
use lib.ListN.{length, get_or, set}
use lib.Seq.{get_or-set_same, get_or-set_other}
use lib.Dec.{eqb}
use borrow.Author.Tests.{eq-eqb}
use lib.Bits.{bit_or, or_comm, or_mod, or_shr}
use lib.Pow.{shl-shr, shl_exact}
use Rattle.table.specs.Filter.{mark_word, mark_bit, mark, with_mark, Unmarked}

-- ---- one bit
low_or : (x y : ℕ) → x ≡ 1 → y < 2 → bit_or x y ≡ 1
low_or x y e h = rw e (go y h)
  where
    go : (z : ℕ) → z < 2 → bit_or 1 z ≡ 1
    go zero k = refl
    go (suc zero) k = refl
    go (suc (suc z)) k = absurd (omega arith)

or_keeps : (a b : ℕ) → a % 2 ≡ 1 → bit_or a b % 2 ≡ 1
or_keeps a b h = or_mod a b 1 ∙ low_or (a % 2) (b % 2) h (omega arith)

or_adds : (a b : ℕ) → b % 2 ≡ 1 → bit_or a b % 2 ≡ 1
or_adds a b h = ap (λ (x : ℕ). x % 2) (or_comm a b) ∙ or_keeps b a h

bit_kept : (a b j : ℕ) → a / 2 ^ j % 2 ≡ 1 → bit_or a b / 2 ^ j % 2 ≡ 1
bit_kept a b j h = ap (λ (x : ℕ). x % 2) (or_shr a b j) ∙ or_keeps (a / 2 ^ j) (b / 2 ^ j) h

bit_set : (a k : ℕ) → bit_or a (2 ^ k) / 2 ^ k % 2 ≡ 1
bit_set a k =
    let one : 2 ^ k / 2 ^ k ≡ 1 = ap (λ (x : ℕ). x / 2 ^ k) (omega arith) ∙ shl-shr 1 k in
    ap (λ (x : ℕ). x % 2) (or_shr a (2 ^ k) k) ∙ or_adds (a / 2 ^ k) (2 ^ k / 2 ^ k) (ap (λ (x : ℕ). x % 2) one)

-- `1u32 << k`
pub one_shifted : (k : ℕ) → k < 32 → 1 * 2 ^ k % 2 ^ 32 ≡ 2 ^ k
one_shifted k h = shl_exact {a = 1} 1 k 32 (omega arith) (omega arith) ∙ omega arith

-- ---- the filter with a bit more
module _ (os : List ℕ) (c : ℕ) (long : length os ≡ 512) where
  there : mark_word c < length os
  there = omega (arith, long)

  pub mark_set : mark (with_mark os c) c ≡ 1
  unfolding mark with_mark
  mark_set = rw (get_or-set_same os (mark_word c) (bit_or (get_or os (mark_word c) 0) (2 ^ mark_bit c)) 0 there) (bit_set (get_or os (mark_word c) 0) (mark_bit c))

  pub mark_kept : (d : ℕ) → mark os d ≡ 1 → mark (with_mark os c) d ≡ 1
  unfolding mark with_mark
  mark_kept d h = go (ℕ_discrete (mark_word d) (mark_word c))
    where
      x : ℕ
      x = bit_or (get_or os (mark_word c) 0) (2 ^ mark_bit c)

      go : Dec (mark_word d ≡ mark_word c) → get_or (set os (mark_word c) x) (mark_word d) 0 / 2 ^ mark_bit d % 2 ≡ 1
      go (yes e) =
          ap (λ (i : ℕ). get_or (set os (mark_word c) x) i 0 / 2 ^ mark_bit d % 2) e
          ∙ ap (λ (y : ℕ). y / 2 ^ mark_bit d % 2) (get_or-set_same os (mark_word c) x 0 there)
          ∙ bit_kept (get_or os (mark_word c) 0) (2 ^ mark_bit c) (mark_bit d) (ap (λ (i : ℕ). get_or os i 0 / 2 ^ mark_bit d % 2) (sym e) ∙ h)
      go (no n) = ap (λ (y : ℕ). y / 2 ^ mark_bit d % 2) (get_or-set_other os (mark_word c) (mark_word d) x 0 n) ∙ h

-- ---- before the filter
pub entry_kept : (os : List ℕ) (c i : ℕ) → i < 256 → get_or (with_mark os c) i 0 ≡ get_or os i 0
unfolding with_mark
entry_kept os c i h = get_or-set_other os (mark_word c) i _ 0 (λ e. omega arith)

pub marks_behind : (os : List ℕ) (i v c : ℕ) → i < 256 → mark (set os i v) c ≡ mark os c
unfolding mark
marks_behind os i v c h = ap (λ (y : ℕ). y / 2 ^ mark_bit c % 2) (get_or-set_other os i (mark_word c) v 0 (λ e. omega arith))

-- ---- a look
pub look_unmarked : (os : List ℕ) (c : ℕ) {r : Bool} → r ≡ eqb (mark os c) 1 → not r ≡ true → Unmarked os c
look_unmarked os c e f m =
    let z : ◌≡◌ {A = Bool} false true = ap not (sym (e ∙ eq-eqb (mark os c) 1 m)) ∙ f in
    let y : ◌≡◌ {A = ℕ} 0 1 = cc in
    omega arith
