-- Laws of `specs/Content.antt`: what the functions answer. No contract cites this file.
use mathlib.Core.Path.{◌≡◌, refl, sym, ◌∙◌}
use mathlib.Core.Bool.{Bool, true, false, ◌&&◌, ◌||◌, true≢false}
use Prim.Native.Nat.{ℕ, ◌%◌, ◌≤◌, ◌<◌}
use native.Mathlib.Omega.{arith}
use lib.Dec.{leb, ltb, eqb}
use borrow.Author.Tests.{le-leb, lt-leb, eqb-true, eqb-false, ltb-true, ltb-false}
use Rattle.text.proofs.RowLaws.{and-true}
use Rattle.whole.specs.Whole.{TOP}
use Rattle.table.specs.Check.{legal_code_point}
use Rattle.record_check.specs.PlainContent.{Head, Digit, Numbers}

or-false : (a b : Bool) → (a || b) ≡ false → (a ≡ false) × (b ≡ false)
or-false false b e = (refl, e)
or-false true b e = absurd (true≢false e)

-- ---- the head, by what is told of it: x is the code point c, and 0 ≤ c needs no test
module _ (least c m : ℕ) {x : ℕ} {b : Bool} (d : x ≡ c) (told : b ≡ ((eqb (m % 64) 43 && ltb m 128) && leb least x)) where
  head_told : (leb c 0xD7FF || (leb 0xE000 c && leb c 0x10FFFF)) ≡ true → b ≡ true → Head least c m
  unfolding legal_code_point
  head_told k e =
      let two = and-true (eqb (m % 64) 43 && ltb m 128) (leb least x) (sym told ∙ e) in
      let one = and-true (eqb (m % 64) 43) (ltb m 128) two.0 in
      let rises : leb least c ≡ true = rw d at two.1 in
      record { fields = eqb-true _ _ one.0; map = ltb-true _ _ one.1; code = rw (rises, le-leb 0 c (omega arith)) k }

  pub head_below : x ≤ 0xD7FF → b ≡ true → Head least c m
  head_below l = head_told (rw (le-leb c 0xD7FF (rw d at l)))

  pub head_above : 0xD7FF < x → ((leb 0xE000 x && leb x 0x10FFFF) && b) ≡ true → Head least c m
  head_above l e =
      let two = and-true (leb 0xE000 x && leb x 0x10FFFF) b e in
      let k : (leb 0xE000 c && leb c 0x10FFFF) ≡ true = rw d at two.0 in
      let n : leb c 0xD7FF ≡ false = lt-leb c 0xD7FF (rw d at l) in
      head_told (rw (n, k)) two.1

pub numbers_is : (t x v b : ℕ) {w d : ℕ} → w ≡ v → d ≡ b → ((ltb TOP w || eqb d 0) || ltb TOP d) ≡ false → Digit t x w → Numbers t x v b
numbers_is t x v b {w} {d} ev eb e h =
    let two = or-false (ltb TOP w || eqb d 0) (ltb TOP d) e in
    let one = or-false (ltb TOP w) (eqb d 0) two.0 in
    let z : d ≡ 0 → ⊥ = eqb-false _ _ one.1 in
    record { small = rw (← ev) (ltb-false _ _ one.0); positive = rw (← eb) (omega arith); base_small = rw (← eb) (ltb-false _ _ two.1); digit = rw (← ev) h }
