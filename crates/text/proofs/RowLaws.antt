-- Laws of the rows of table 3-7 (`specs/Table.antt`). In order: tests; a row holds for each byte of an interval, by a test that antt computes over
-- the interval; what holds of each row holds of `row_of b`.
use mathlib.Core.Path.{◌≡◌, refl, sym, ap, ◌∙◌, subst}
use mathlib.Core.Bool.{Bool, true, false, cond, ◌&&◌, ◌||◌, true≢false}
use mathlib.Core.Logic.{◌⊎◌, inl, inr}
use Prim.Native.Nat.{ℕ, zero, suc, ◌+◌, ◌≤◌, ◌<◌}
use native.Mathlib.Nat.{eq-or-lt_of_le}
use native.Mathlib.Omega.{arith}
use lib.Dec.{T, leb, eqb, eqb→eq}
use lib.Ieee.Fits.{and_l, and_r}
use borrow.Author.Tests.{le-leb, leb-true, leb-false, eqb-true, eqb-false}
use Rattle.text.specs.declared.Row.{Row}
use Rattle.text.specs.Table.{row, row_of, within}

-- ---- tests
pub cond_cases : {A : Type 0} (P : A → Type 0) (t : Bool) {x y : A} → (t ≡ true → P x) → (t ≡ false → P y) → P (cond t x y)
cond_cases P true f g = f refl
cond_cases P false f g = g refl

pub and-true : (p q : Bool) → (p && q) ≡ true → (p ≡ true) × (q ≡ true)
and-true true q e = (refl, e)
and-true false q e = absurd (true≢false (sym e))

pub or-true : (p q : Bool) → (p || q) ≡ true → (p ≡ true) ⊎ (q ≡ true)
or-true true q e = inl refl
or-true false q e = inr e

pub within_is : (lo hi x : ℕ) → within lo hi x ≡ true → (lo ≤ x) × (x ≤ hi)
within_is lo hi x e = let h = and-true (leb lo x) (leb x hi) e in (leb-true lo x h.0, leb-true x hi h.1)

pub not_within : (lo hi x : ℕ) → within lo hi x ≡ false → lo ≤ x → hi < x
not_within lo hi x e h = leb-false x hi (rw (le-leb lo x h) at e)

pub is_within : (lo hi x : ℕ) → lo ≤ x → x ≤ hi → within lo hi x ≡ true
is_within lo hi x h k = simp (le-leb lo x h, le-leb x hi k)

-- ---- a row for an interval of lead bytes
-- a test at each of the n numbers from lo on, computed
abbrev pub all : (ℕ → Bool) → ℕ → ℕ → Bool
all P lo zero = true
all P lo (suc n) = P lo && all P (suc lo) n

pub all_at : (P : ℕ → Bool) (lo n : ℕ) → T (all P lo n) → (b : ℕ) → lo ≤ b → b < lo + n → T (P b)
all_at P lo zero t b h k = absurd (omega arith)
all_at P lo (suc n) t b h k = elim (eq-or-lt_of_le h) [
  | inl e ↦ subst (λ (x : ℕ). T (P x)) e (and_l (P lo) (all P (suc lo) n) t)
  | inr l ↦ all_at P (suc lo) n (and_r (P lo) (all P (suc lo) n) t) b l (omega arith)
]

abbrev equal : Row → Row → Bool
equal x y = eqb x.0 y.0 && (eqb x.1 y.1 && eqb x.2 y.2)

equal_rows : (x y : Row) → T (equal x y) → x ≡ y
equal_rows x y t =
    let a : x.0 ≡ y.0 = eqb→eq _ _ (and_l (eqb x.0 y.0) _ t) in
    let u = and_r (eqb x.0 y.0) (eqb x.1 y.1 && eqb x.2 y.2) t in
    let b : x.1 ≡ y.1 = eqb→eq _ _ (and_l (eqb x.1 y.1) _ u) in
    let d : x.2 ≡ y.2 = eqb→eq _ _ (and_r (eqb x.1 y.1) _ u) in
    ap (λ (n : ℕ). row n x.1 x.2) a ∙ ap (λ (n : ℕ). row y.0 n x.2) b ∙ ap (λ (n : ℕ). row y.0 y.1 n) d

pub row_at : (lo n : ℕ) (r : Row) → T (all (λ b. equal (row_of b) r) lo n) → (b : ℕ) → lo ≤ b → b < lo + n → r ≡ row_of b
row_at lo n r t b h k = sym (equal_rows (row_of b) r (all_at (λ b. equal (row_of b) r) lo n t b h k))

-- ---- `row_of` by cases
module _ (b : ℕ) (P : Row → Type 0) where
  pub by_row : (b ≤ 0x7F → P (row 1 0 0)) → (0xC2 ≤ b → b ≤ 0xDF → P (row 2 0x80 0xBF))
      → (b ≡ 0xE0 → P (row 3 0xA0 0xBF)) → (0xE1 ≤ b → b ≤ 0xEC → P (row 3 0x80 0xBF)) → (b ≡ 0xED → P (row 3 0x80 0x9F)) → (0xEE ≤ b → b ≤ 0xEF → P (row 3 0x80 0xBF))
      → (b ≡ 0xF0 → P (row 4 0x90 0xBF)) → (0xF1 ≤ b → b ≤ 0xF3 → P (row 4 0x80 0xBF)) → (b ≡ 0xF4 → P (row 4 0x80 0x8F))
      → (0x7F < b → (0xC2 ≤ b → 0xF4 < b) → P (row 0 0 0)) → P (row_of b)
  unfolding row_of
  by_row one two e0 e1 ed ee f0 f1 f4 none =
      range 0x00 0x7F (λ h k. one k)
      (λ n1. range 0xC2 0xDF two
      (λ n2. lead 0xE0 e0
      (λ n3. range 0xE1 0xEC e1
      (λ n4. lead 0xED ed
      (λ n5. range 0xEE 0xEF ee
      (λ n6. lead 0xF0 f0
      (λ n7. range 0xF1 0xF3 f1
      (λ n8. lead 0xF4 f4
      (λ n9. none (n1 (omega arith)) (λ h. let a = n2 h in let d = n4 (omega arith) in let g = n6 (omega arith) in let i = n8 (omega arith) in omega arith))))))))))
    where
      range : (lo hi : ℕ) {x y : Row} → (lo ≤ b → b ≤ hi → P x) → ((lo ≤ b → hi < b) → P y) → P (cond (within lo hi b) x y)
      range lo hi f g = cond_cases P (within lo hi b) (λ t. let h = within_is lo hi b t in f h.0 h.1) (λ t. g (not_within lo hi b t))

      lead : (v : ℕ) {x y : Row} → (b ≡ v → P x) → ((b ≡ v → ⊥) → P y) → P (cond (eqb b v) x y)
      lead v f g = cond_cases P (eqb b v) (λ t. f (eqb-true b v t)) (λ t. g (eqb-false b v t))

-- the rows of three and of four bytes
module _ (b : ℕ) (P : Row → Type 0) where
  pub by_three : 0xE0 ≤ b → b ≤ 0xEF
      → (b ≡ 0xE0 → P (row 3 0xA0 0xBF)) → (0xE1 ≤ b → b ≤ 0xEC → P (row 3 0x80 0xBF)) → (b ≡ 0xED → P (row 3 0x80 0x9F)) → (0xEE ≤ b → b ≤ 0xEF → P (row 3 0x80 0xBF))
      → P (row_of b)
  by_three h k e0 e1 ed ee =
      by_row b P (λ l. absurd (omega arith)) (λ l g. absurd (omega arith)) e0 e1 ed ee
      (λ e. absurd (omega arith)) (λ l g. absurd (omega arith)) (λ e. absurd (omega arith)) (λ l g. absurd (omega (arith, g (omega arith))))

  pub by_four : 0xF0 ≤ b → b ≤ 0xF4
      → (b ≡ 0xF0 → P (row 4 0x90 0xBF)) → (0xF1 ≤ b → b ≤ 0xF3 → P (row 4 0x80 0xBF)) → (b ≡ 0xF4 → P (row 4 0x80 0x8F)) → P (row_of b)
  by_four h k f0 f1 f4 =
      by_row b P (λ l. absurd (omega arith)) (λ l g. absurd (omega arith))
      (λ e. absurd (omega arith)) (λ l g. absurd (omega arith)) (λ e. absurd (omega arith)) (λ l g. absurd (omega arith))
      f0 f1 f4 (λ l g. absurd (omega (arith, g (omega arith))))
