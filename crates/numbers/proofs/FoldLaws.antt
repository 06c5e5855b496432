-- Laws of `fold` (`specs/Folded.antt`) and of the comparison by it, for the crates that find markers and signs and for the theorems on widths.
-- In order: one character; a line; the comparison. Assumes nothing.
use mathlib.Core.Path.{◌≡◌, refl, sym, ap, ◌∙◌}
use mathlib.Core.Bool.{Bool, true, false, ◌&&◌}
use mathlib.Core.List.{List, [], ◌∷◌}
use Prim.Native.Nat.{ℕ, zero, suc, ◌+◌, ◌-◌, ◌%◌, ◌≤◌, ◌<◌}
use native.Mathlib.Omega.{arith}
use lib.ListN.{length, take, drop, length-map, length-take, length-drop}
use lib.Dec.{leb}
use borrow.Author.Tests.{leb-true}
use Rattle.text.specs.Sequence.{scalar}
use Rattle.text.specs.Text.{chars, Scalars}
use Rattle.text.proofs.BytesLaws.{same_true}
use Rattle.text.proofs.RowLaws.{and-true, is_within}
use Rattle.table.specs.Table.{Text}
use Rattle.numbers.specs.Folded.{is_wide, fold, folded}
use Rattle.numbers.specs.Fractions.{stands_at}

-- ---- one character
module _ (c : ℕ) where
  pub wide_within : is_wide c ≡ true → (0xFF01 ≤ c) × (c ≤ 0xFF5E)
  wide_within e = let h = and-true (leb 0xFF01 c) (leb c 0xFF5E) e in (leb-true 0xFF01 c h.0, leb-true c 0xFF5E h.1)

  pub fold_wide : is_wide c ≡ true → fold c ≡ c - 0xFEE0
  unfolding fold
  fold_wide e = rw e

  pub fold_narrow : is_wide c ≡ false → fold c ≡ c
  unfolding fold
  fold_narrow e = rw e

  -- it is wide, or it is not
  pub by_width : (P : ℕ → Type 0) → (0xFF01 ≤ c → c ≤ 0xFF5E → P (c - 0xFEE0)) → (is_wide c ≡ false → P c) → P (fold c)
  by_width P f g = go (is_wide c) refl
    where
      go : (b : Bool) → is_wide c ≡ b → P (fold c)
      go true e = let h = wide_within e in rw (fold_wide e) (f h.0 h.1)
      go false e = rw (fold_narrow e) (g e)

-- U+0021 to U+007E are not wide
fold_small : (c : ℕ) → c < 0xFF01 → fold c ≡ c
fold_small c h = fold_narrow c (go (leb 0xFF01 c) (leb-true 0xFF01 c))
  where
    go : (b : Bool) → (b ≡ true → 0xFF01 ≤ c) → (b && leb c 0xFF5E) ≡ false
    go true k = absurd (omega (arith, k refl))
    go false k = refl

pub fold_fold : (c : ℕ) → fold (fold c) ≡ fold c
fold_fold c = by_width c (λ x. fold x ≡ x) (λ h k. fold_small (c - 0xFEE0) (omega arith)) (fold_narrow c)

-- the lowest five bits stay
pub fold_low : (c : ℕ) → fold c % 32 ≡ c % 32
fold_low c = by_width c (λ x. x % 32 ≡ c % 32) (λ h k. omega arith) (λ e. refl)

pub fold_scalar : (c : ℕ) → scalar c ≡ true → scalar (fold c) ≡ true
fold_scalar c s = by_width c (λ x. scalar x ≡ true) (λ h k. rw (is_within 0 0xD7FF (c - 0xFEE0) (omega arith) (omega arith))) (λ e. s)

-- ---- a line
pub folded_folded : (w : List ℕ) → folded (folded w) ≡ folded w
folded_folded [] = refl
folded_folded (c ∷ w) = rw (fold_fold c, folded_folded w)

pub folded_scalars : (w : List ℕ) → Scalars w → Scalars (folded w)
folded_scalars [] s = s
folded_scalars (c ∷ w) s = (fold_scalar c s.0, folded_scalars w s.1)

pub folded_drop : (p : ℕ) (w : List ℕ) → drop p (folded w) ≡ folded (drop p w)
folded_drop zero w = refl
folded_drop (suc p) [] = refl
folded_drop (suc p) (c ∷ w) = folded_drop p w

pub folded_take : (n : ℕ) (w : List ℕ) → take n (folded w) ≡ folded (take n w)
folded_take zero w = refl
folded_take (suc n) [] = refl
folded_take (suc n) (c ∷ w) = ap (λ (x : List ℕ). fold c ∷ x) (folded_take n w)

-- ---- the comparison
-- a marker or sign that stands at a place counts as the characters there do
pub stands_counts : (w : List ℕ) (p : ℕ) (m : Text) → stands_at w p m ≡ true → folded (take (length (chars m)) (drop p w)) ≡ folded (chars m)
unfolding stands_at
stands_counts w p m e = sym (ap (take (length (chars m))) (folded_drop p w) ∙ folded_take (length (chars m)) (drop p w)) ∙ same_true _ _ e

-- it ends within the line
pub stands_fits : (w : List ℕ) (p : ℕ) (m : Text) → p ≤ length w → stands_at w p m ≡ true → p + length (chars m) ≤ length w
stands_fits w p m h e =
    let k = sym (length-map (take (length (chars m)) (drop p w)) fold) ∙ ap length (stands_counts w p m e) ∙ length-map (chars m) fold in
    omega (arith, k, length-take (length (chars m)) (drop p w), length-drop p w)
