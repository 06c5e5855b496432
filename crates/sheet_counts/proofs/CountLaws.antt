-- The table of `sheet_counts`: how many rows there are in each 1,024 candidates, by a test that computes them all; and so all rows.
-- In order: the test; a block of the table; few rows; all rows.
use Prim.Native.Nat.{ℕ, zero, suc, ◌+◌, ◌-◌, ◌*◌, ◌%◌, ◌≤◌, ◌<◌}
use mathlib.Core.Path.{◌≡◌, refl, sym, ap, ◌∙◌}
use mathlib.Core.Bool.{cond}
use mathlib.Core.List.{List, [], ◌∷◌}
use mathlib.Core.Option.{Option, none, some}
use native.Mathlib.Omega.{arith}
use native.Mathlib.Nat.{zero-add, add-zero}
use lib.Dec.{ltb}
use lib.ListN.{get_or}
use borrow.Author.Tests.{lt-ltb, le-ltb}
use Rattle.sheet_rows.specs.Rows.{numeral_within}
use Rattle.sheet_counts.specs.Numbered.{word_of, candidate, one, rows_in}

-- ---- the test

-- of n blocks of 1,024 candidates, from i on
unfoldable counts : ℕ → ℕ → List ℕ
counts zero i = []
counts (suc n) i = rows_in 1024 i ∷ counts n (i + 1024)

-- the code's table, and where a block's count stands in it
abbrev table : List ℕ
table =
    931 ∷ 976 ∷ 765 ∷ 778 ∷ 931 ∷ 976 ∷ 488 ∷ 559 ∷ 972 ∷ 972 ∷ 763 ∷ 778 ∷ 969 ∷ 968 ∷ 761 ∷ 774 ∷ 208 ∷ 168 ∷ 84 ∷ 559
    ∷ 449 ∷ 340 ∷ 252 ∷ 559 ∷ 844 ∷ 836 ∷ 695 ∷ 559 ∷ 586 ∷ 612 ∷ 436 ∷ 141 ∷ 717 ∷ 756 ∷ 555 ∷ 326 ∷ 822 ∷ 864 ∷ 658 ∷ 538 ∷ []

unfoldable slot : ℕ → ℕ
slot b = cond (ltb b 12) b (cond (ltb b 40) (8 + b % 4) (b - 28))

-- what the table says of n blocks, from b on
unfoldable said : ℕ → ℕ → List ℕ
said zero b = []
said (suc n) b = get_or table (slot b) 0 ∷ said n (suc b)

said_counts : said 68 0 ≡ counts 68 272
unfolding said slot counts rows_in candidate word_of numeral_within
said_counts = refl

-- the words of one and two characters
pub short_rows : rows_in 272 0 ≡ 257
unfolding rows_in candidate word_of numeral_within
short_rows = refl

-- ---- a block of the table
counts_at : (n i b : ℕ) → b < n → get_or (counts n i) b 0 ≡ rows_in 1024 (i + 1024 * b)
unfolding counts
counts_at zero i b h = absurd (omega arith)
counts_at (suc n) i zero h = ap (rows_in 1024) (omega arith)
counts_at (suc n) i (suc b) h = counts_at n (i + 1024) b (omega arith) ∙ ap (rows_in 1024) (omega arith)

said_at : (n i b : ℕ) → b < n → get_or (said n i) b 0 ≡ get_or table (slot (i + b)) 0
unfolding said
said_at zero i b h = absurd (omega arith)
said_at (suc n) i zero h = ap (λ (k : ℕ). get_or table (slot k) 0) (omega arith)
said_at (suc n) i (suc b) h = said_at n (suc i) b (omega arith) ∙ ap (λ (k : ℕ). get_or table (slot k) 0) (omega arith)

table_at : (b s : ℕ) → b < 68 → slot b ≡ s → get_or table s 0 ≡ rows_in 1024 (272 + 1024 * b)
table_at b s h e =
    ap (λ (k : ℕ). get_or table k 0) (sym e ∙ ap slot (sym (zero-add b))) ∙ sym (said_at 68 0 b h)
    ∙ ap (λ (l : List ℕ). get_or l b 0) said_counts ∙ counts_at 68 272 b h

pub first_blocks : (b : ℕ) → b < 12 → get_or table b 0 ≡ rows_in 1024 (272 + 1024 * b)
unfolding slot
first_blocks b h = table_at b b (omega arith) (simp (lt-ltb b 12 h))

pub alike_blocks : (b : ℕ) → 12 ≤ b → b < 40 → get_or table (8 + b % 4) 0 ≡ rows_in 1024 (272 + 1024 * b)
unfolding slot
alike_blocks b h k = table_at b (8 + b % 4) (omega arith) (simp (le-ltb b 12 h, lt-ltb b 40 k))

pub last_blocks : (b : ℕ) → 40 ≤ b → b < 68 → get_or table (b - 28) 0 ≡ rows_in 1024 (272 + 1024 * b)
unfolding slot
last_blocks b h k = table_at b (b - 28) k (simp (le-ltb b 12 (omega arith), le-ltb b 40 h))

-- ---- few rows
pub rows_in_le : (k i : ℕ) → rows_in k i ≤ k
unfolding rows_in
rows_in_le zero i = omega arith
rows_in_le (suc k) i = omega (arith, rows_in_le k (suc i), one_le (numeral_within (candidate i)))
  where
    one_le : (o : Option ℕ) → one o ≤ 1
    one_le none = omega arith
    one_le (some v) = omega arith

-- ---- all rows
rows_in_none : (i : ℕ) → rows_in 0 i ≡ 0
unfolding rows_in
rows_in_none i = refl

rows_in_add : (k m i : ℕ) → rows_in (k + m) i ≡ rows_in k i + rows_in m (i + k)
unfolding rows_in
rows_in_add zero m i = rw (zero-add m, add-zero i) (sym (zero-add _))
rows_in_add (suc k) m i =
    let e : suc k + m ≡ suc (k + m) = omega arith in
    let j : suc i + k ≡ i + suc k = omega arith in
    rw e (omega (arith, rows_in_add k m (suc i), ap (rows_in m) j))

sum : List ℕ → ℕ
sum [] = 0
sum (n ∷ l) = n + sum l

rows_in_blocks : (n i : ℕ) → rows_in (1024 * n) i ≡ sum (counts n i)
unfolding counts sum
rows_in_blocks zero i = rows_in_none i
rows_in_blocks (suc n) i =
    let e : 1024 * suc n ≡ 1024 + 1024 * n = omega arith in
    rw (e, rows_in_add 1024 (1024 * n) i) (omega (arith, rows_in_blocks n (i + 1024)))

said_sum : sum (said 68 0) ≡ 50320
unfolding sum said slot
said_sum = refl

pub all_rows : rows_in 69904 0 ≡ 50577
all_rows = rows_in_add 272 69632 0 ∙ omega (arith, short_rows, rows_in_blocks 68 272, ap sum (sym said_counts), said_sum)
