-- Laws of rows (`specs/Rows.antt`). In order: the sheet's order; the rows of any test; numerals of value at most TOP; a row's length.
use Prim.Native.Nat.{ℕ, zero, suc, ◌+◌, ◌*◌, ◌≤◌, ◌<◌}
use mathlib.Core.Path.{◌≡◌, refl, sym, ap, ◌∙◌}
use mathlib.Core.Logic.{◌↔◌, ◌⊎◌, inl, inr}
use mathlib.Core.Bool.{Bool, true, false, cond}
use mathlib.Core.List.Memᴰ
use mathlib.Core.List.{List, [], ◌∷◌, ◌++◌, map, Memᴰ, append_assoc, append-nil}
use mathlib.Core.Option.{Option, none, some, some-ne-none, some-injective}
use native.Mathlib.Omega.{arith}
use lib.Dec.{leb}
use lib.ListN.{length, length-append}
use borrow.Author.Tests.{le-leb, leb-true}
use Rattle.whole.specs.Whole.{TOP}
use Rattle.whole.specs.Decimal.{decimal}
use Rattle.whole.proofs.DecimalLaws.{length_decimal_top}
use Rattle.grammar.specs.Plain.{Char, utf8}
use Rattle.grammar.proofs.Sixteen.{each}
use Rattle.grammar.proofs.PlainText.{utf8_length}
use Rattle.numeral.specs.Numeral.{numeral_of, Valued}
use Rattle.numeral.specs.Field.{answered, field_of}
use Rattle.numeral.proofs.OneNumber.{numeral_of_lem}
use Rattle.numeral.proofs.FieldLaws.{utf8_field}
use Rattle.sheet_rows.specs.Rows.{order, rank, within_top, numeral_within, number_of, row_if, rows_of, row_of, row_bytes, rows_bytes}
use Rattle.sheet_rows.proofs.Rising.{Rises}
use Rattle.std.specs.Prelude.{Some, Ok, Err}
use Rattle.numeral.specs.declared.FieldRefusal.TheVariants as FieldRefusal

-- ---- the sheet's order

-- the k numbers from n on
abbrev count : ℕ → ℕ → List ℕ
count n zero = []
count n (suc k) = n ∷ count (suc n) k

-- the ranks of cs are n and those after it
abbrev From : ℕ → List Char → Type 0
From n cs = map rank cs ≡ count n (length cs)

from_first : (n : ℕ) (c : Char) (cs : List Char) → From n (c ∷ cs) → (rank c ≡ n) × From (suc n) cs
from_first n c cs h = (cc, cc)

from_least_lem : (n : ℕ) (cs : List Char) → From n cs → (d : Char) → Memᴰ d cs → n ≤ rank d
from_least_lem n [] h d m = absurd (Memᴰ.not-nil m)
from_least_lem n (c ∷ cs) h d (Memᴰ.head e) = omega (arith, ap rank e, (from_first n c cs h).0)
from_least_lem n (c ∷ cs) h d (Memᴰ.tail m) = omega (arith, from_least_lem (suc n) cs (from_first n c cs h).1 d m)

from_rises : (n : ℕ) (cs : List Char) → From n cs → Rises (λ c d. rank c < rank d) cs
from_rises n [] h = tt
from_rises n (c ∷ cs) h = let (e, k) = from_first n c cs h in (λ d m. omega (arith, from_least_lem (suc n) cs k d m, e), from_rises (suc n) cs k)

pub order_rises : Rises (λ c d. rank c < rank d) order
order_rises = from_rises 0 order refl

-- c is the n-th of those in cs
abbrev There : ℕ → List Char → Char → Type 0
There n [] c = ⊥
There zero (d ∷ cs) c = c ≡ d
There (suc n) (d ∷ cs) c = There n cs c

there_mem : (n : ℕ) (cs : List Char) (c : Char) → There n cs c → Memᴰ c cs
there_mem n [] c h = absurd h
there_mem zero (d ∷ cs) c h = Memᴰ.head h
there_mem (suc n) (d ∷ cs) c h = Memᴰ.tail (there_mem n cs c h)

pub order_all : (c : Char) → Memᴰ c order
order_all c = there_mem (rank c) order c (each (λ c. There (rank c) order c) (refl, refl, refl, refl, refl, refl, refl, refl, refl, refl, refl, refl, refl, refl, refl, refl) c)

-- ---- the rows of any test
module _ {A : Type 0} (f : A → Option ℕ) where
  row_in : (b : A) (o : Option ℕ) (rs : List (A × ℕ)) (a : A) (v : ℕ) → Memᴰ (a, v) (row_if b o rs) → ((a ≡ b) × (o ≡ some v)) ⊎ Memᴰ (a, v) rs
  row_in b none rs a v m = inr m
  row_in b (some u) rs a v m = go (Memᴰ.cases_cons m)
    where
      go : (◌≡◌ {A = A × ℕ} (a, v) (b, u)) ⊎ Memᴰ (a, v) rs → ((a ≡ b) × (some u ≡ some v)) ⊎ Memᴰ (a, v) rs
      go (inl e) = inl (ap (λ (r : A × ℕ). r.0) e, ap (λ (r : A × ℕ). some r.1) (sym e))
      go (inr k) = inr k

  row_after : (b : A) (o : Option ℕ) {r : A × ℕ} {rs : List (A × ℕ)} → Memᴰ r rs → Memᴰ r (row_if b o rs)
  row_after b none m = m
  row_after b (some u) m = Memᴰ.tail m

  -- what has a row is of the list, and has its value
  pub rows_in_lem : (l : List A) (a : A) (v : ℕ) → Memᴰ (a, v) (rows_of f l) → Memᴰ a l × (f a ≡ some v)
  unfolding rows_of
  rows_in_lem [] a v m = absurd (Memᴰ.not-nil m)
  rows_in_lem (b ∷ l) a v m = go (row_in b (f b) (rows_of f l) a v m) (rows_in_lem l a v)
    where
      go : ((a ≡ b) × (f b ≡ some v)) ⊎ Memᴰ (a, v) (rows_of f l) → (Memᴰ (a, v) (rows_of f l) → Memᴰ a l × (f a ≡ some v)) → Memᴰ a (b ∷ l) × (f a ≡ some v)
      go (inl (e, h)) below = (Memᴰ.head e, ap f e ∙ h)
      go (inr k) below = let (i, h) = below k in (Memᴰ.tail i, h)

  -- and the other way round
  pub rows_has : (l : List A) (a : A) (v : ℕ) → Memᴰ a l → f a ≡ some v → Memᴰ (a, v) (rows_of f l)
  unfolding rows_of
  rows_has [] a v m h = elim m [ ]
  rows_has (b ∷ l) a v (Memᴰ.head e) h = rw (← e, h) (Memᴰ.head refl)
  rows_has (b ∷ l) a v (Memᴰ.tail m) h = row_after b (f b) (rows_has l a v m h)

  -- rows rise where the list does
  pub rows_rise : (R : A → A → Type 0) (l : List A) → Rises R l → Rises (λ r s. R r.0 s.0) (rows_of f l)
  unfolding rows_of
  rows_rise R [] h = tt
  rows_rise R (b ∷ l) h = go (f b) (rows_rise R l h.1)
    where
      go : (o : Option ℕ) → Rises (λ r s. R r.0 s.0) (rows_of f l) → Rises (λ r s. R r.0 s.0) (row_if b o (rows_of f l))
      go none k = k
      go (some v) k = (λ r m. h.0 r.0 (rows_in_lem l r.0 r.1 m).0, k)

  -- one by one
  pub rows_nil : rows_of f [] ≡ []
  unfolding rows_of
  rows_nil = refl

  pub rows_none : (a : A) (l : List A) → f a ≡ none → rows_of f (a ∷ l) ≡ rows_of f l
  unfolding rows_of
  rows_none a l e = rw e

  pub rows_some : (a : A) (v : ℕ) (l : List A) → f a ≡ some v → rows_of f (a ∷ l) ≡ (a, v) ∷ rows_of f l
  unfolding rows_of
  rows_some a v l e = rw e

  pub rows_at_most : (l : List A) → length (rows_of f l) ≤ length l
  unfolding rows_of
  rows_at_most [] = omega arith
  rows_at_most (a ∷ l) = go (f a) (rows_at_most l)
    where
      go : (o : Option ℕ) → length (rows_of f l) ≤ length l → length (row_if a o (rows_of f l)) ≤ suc (length l)
      go none h = omega arith
      go (some v) h = omega arith

-- ---- numerals of value at most TOP
within_some : (o : Option ℕ) (v : ℕ) → within_top o ≡ some v → (o ≡ some v) × (v ≤ TOP)
within_some none v e = absurd (some-ne-none v (sym e))
within_some (some u) v e = go (leb u TOP) refl e
  where
    go : (b : Bool) → leb u TOP ≡ b → cond b (some u) none ≡ some v → (some u ≡ some v) × (v ≤ TOP)
    go true h k = (k, rw (some-injective u v k) at (leb-true u TOP h))
    go false h k = absurd (some-ne-none v (sym k))

pub numeral_within_lem : (w : List Char) (v : ℕ) → (numeral_within w ≡ some v) ↔ (Valued w v × (v ≤ TOP))
unfolding numeral_within
numeral_within_lem w v = (
  λ e. let (h, t) = within_some (numeral_of w) v e in ((numeral_of_lem w v).0 h, t),
  λ n. rw ((numeral_of_lem w v).1 n.0, le-leb v TOP n.1),
)

number_answered : (o : Option ℕ) → number_of (answered o) ≡ within_top o
number_answered none = refl
number_answered (some v) = go (leb v TOP)
  where
    go : (b : Bool) → number_of (cond b (Ok (Some v)) (Err FieldRefusal.AboveTop)) ≡ cond b (some v) none
    go true = refl
    go false = refl

-- the field of its bytes is a number just so
pub number_within : (w : List Char) → length w ≤ 256 → number_of (field_of (utf8 w)) ≡ numeral_within w
unfolding numeral_within
number_within w h = ap number_of (utf8_field w h) ∙ number_answered (numeral_of w)

-- ---- a row's length
pub length_row_of : (t : List ℕ) (v : ℕ) → length (row_of t v) ≡ length t + length (decimal v) + 2
length_row_of t v = omega (arith, length-append t (9 ∷ (decimal v ++ (10 ∷ []))), length-append (decimal v) (10 ∷ []))

pub length_row : (r : List Char × ℕ) → length (row_bytes r) ≡ 3 * length r.0 + length (decimal r.1) + 2
unfolding row_bytes
length_row r = omega (arith, length_row_of (utf8 r.0) r.1, utf8_length r.0)

pub length_row_top : (r : List Char × ℕ) → r.1 ≤ TOP → length (row_bytes r) ≤ 3 * length r.0 + 18
length_row_top r t = omega (arith, length_row r, length_decimal_top r.1 t)

pub rows_bytes_append : (s t : List (List Char × ℕ)) → rows_bytes (s ++ t) ≡ rows_bytes s ++ rows_bytes t
unfolding rows_bytes
rows_bytes_append [] t = refl
rows_bytes_append (r ∷ s) t = rw (rows_bytes_append s t) (sym (append_assoc (row_bytes r) (rows_bytes s) (rows_bytes t)))

-- a row more
pub rows_bytes_more : (done : List (List Char × ℕ)) (r : List Char × ℕ) → rows_bytes (done ++ (r ∷ [])) ≡ rows_bytes done ++ row_bytes r
unfolding rows_bytes
rows_bytes_more done r = rows_bytes_append done (r ∷ []) ∙ ap (λ (l : List ℕ). rows_bytes done ++ l) (append-nil (row_bytes r))
