-- Laws of pages (`specs/Sheet.antt`). In order: as many rows as fit, of any rows: they are a first part of them, fit, and are the longest that does; row by row;
-- a page; a row of the sheet has at most 30 bytes, so that pages of so many bytes go on to its end.
use Prim.Native.Nat.{ℕ, zero, suc, ◌+◌, ◌-◌, ◌≤◌, ◌<◌}
use mathlib.Core.Path.{◌≡◌, refl, sym, ap, ◌∙◌}
use mathlib.Core.Bool.{Bool, true, false, cond}
use mathlib.Core.List.{List, [], ◌∷◌, ◌++◌, Memᴰ}
use native.Mathlib.Omega.{arith}
use lib.Dec.{leb}
use lib.ListN.{length, drop, length-append, length-drop, drop_of_length-le}
use lib.Seq.{drop-drop}
use borrow.Author.Tests.{leb-true, leb-false, le-leb, lt-leb}
use Rattle.grammar.specs.Plain.{Char}
use Rattle.sheet_rows.specs.Rows.{numeral_within, row_bytes, rows_bytes}
use Rattle.sheet_rows.proofs.RowLaws.{rows_in_lem, numeral_within_lem, length_row_top}
use Rattle.sheet.specs.Sheet.{candidates, sheet, fitting, page, after, pages}
use Rattle.sheet.proofs.WordLaws.{candidate_length}

abbrev Rows : Type 0
Rows = List (List Char × ℕ)

abbrev size : List Char × ℕ → ℕ
size r = length (row_bytes r)

-- ---- as many rows as fit
pub fitting_part : (n : ℕ) (rs : Rows) → fitting n rs ++ drop (length (fitting n rs)) rs ≡ rs
unfolding fitting
fitting_part n [] = refl
fitting_part n (r ∷ rs) = go (leb (size r) n) (fitting_part (n - size r) rs)
  where
    go : (b : Bool) → fitting (n - size r) rs ++ drop (length (fitting (n - size r) rs)) rs ≡ rs
        → cond b (r ∷ fitting (n - size r) rs) [] ++ drop (length (cond b (r ∷ fitting (n - size r) rs) [])) (r ∷ rs) ≡ r ∷ rs
    go true h = ap (λ (l : Rows). r ∷ l) h
    go false h = refl

pub fitting_some : (n : ℕ) (r : List Char × ℕ) (rs : Rows) → length (row_bytes r) ≤ n → 1 ≤ length (fitting n (r ∷ rs))
unfolding fitting
fitting_some n r rs h = rw (le-leb (size r) n h) (omega arith)

pub fitting_fits : (n : ℕ) (rs : Rows) → length (rows_bytes (fitting n rs)) ≤ n
unfolding fitting rows_bytes
fitting_fits n [] = omega arith
fitting_fits n (r ∷ rs) = go (leb (size r) n) refl (fitting_fits (n - size r) rs)
  where
    go : (b : Bool) → leb (size r) n ≡ b → length (rows_bytes (fitting (n - size r) rs)) ≤ n - size r → length (rows_bytes (cond b (r ∷ fitting (n - size r) rs) [])) ≤ n
    go true e h = omega (arith, length-append (row_bytes r) (rows_bytes (fitting (n - size r) rs)), leb-true (size r) n e)
    go false e h = omega arith

pub fitting_full : (n : ℕ) (rs : Rows) (r : List Char × ℕ) (t : Rows) → fitting n rs ++ (r ∷ t) ≡ rs → n < length (rows_bytes (fitting n rs)) + length (row_bytes r)
unfolding fitting rows_bytes
fitting_full n [] r t h = absurd cc
fitting_full n (q ∷ rs) r t h = go (leb (size q) n) refl (fitting_full (n - size q) rs r t) h
  where
    go : (b : Bool) → leb (size q) n ≡ b
        → (fitting (n - size q) rs ++ (r ∷ t) ≡ rs → n - size q < length (rows_bytes (fitting (n - size q) rs)) + size r)
        → cond b (q ∷ fitting (n - size q) rs) [] ++ (r ∷ t) ≡ q ∷ rs → n < length (rows_bytes (cond b (q ∷ fitting (n - size q) rs) [])) + size r
    go true e ih k = let i : fitting (n - size q) rs ++ (r ∷ t) ≡ rs = cc in omega (arith, ih i, length-append (row_bytes q) (rows_bytes (fitting (n - size q) rs)), leb-true (size q) n e)
    go false e ih k = let i : r ≡ q = cc in omega (arith, ap size i, leb-false (size q) n e)

-- ---- row by row
pub fitting_next : (n : ℕ) (r : List Char × ℕ) (rs : Rows) → length (row_bytes r) ≤ n → fitting n (r ∷ rs) ≡ r ∷ fitting (n - length (row_bytes r)) rs
unfolding fitting
fitting_next n r rs h = rw (le-leb (length (row_bytes r)) n h)

pub fitting_stops : (n : ℕ) (r : List Char × ℕ) (rs : Rows) → n < length (row_bytes r) → fitting n (r ∷ rs) ≡ []
unfolding fitting
fitting_stops n r rs h = rw (lt-leb (length (row_bytes r)) n h)

pub fitting_nil : (n : ℕ) → fitting n [] ≡ []
unfolding fitting
fitting_nil n = refl

-- ---- a page
pub page_part : (p n : ℕ) → page p n ++ drop (after p n) sheet ≡ drop p sheet
unfolding after page
page_part p n = rw (← (drop-drop (length (fitting n (drop p sheet))) p sheet)) (fitting_part n (drop p sheet))

-- ---- pages
pub row_size : (r : List Char × ℕ) → Memᴰ r sheet → length (row_bytes r) ≤ 30
unfolding sheet
row_size r m =
    let (i, e) = rows_in_lem numeral_within candidates r.0 r.1 m in
    omega (arith, (candidate_length r.0 i).1, length_row_top r ((numeral_within_lem r.0 r.1).0 e).1)

mem_drop : {A : Type 0} (p : ℕ) (l : List A) {a : A} → Memᴰ a (drop p l) → Memᴰ a l
mem_drop zero l m = m
mem_drop (suc p) [] m = m
mem_drop (suc p) (b ∷ l) m = Memᴰ.tail (mem_drop p l m)

-- where a row is left, an output that holds any row takes one
page_some : (p n : ℕ) → 30 ≤ n → p < length sheet → p < after p n
unfolding after page
page_some p n h l = go (drop p sheet) refl
  where
    go : (rs : Rows) → drop p sheet ≡ rs → p < p + length (fitting n rs)
    go [] e = absurd (omega (arith, sym (length-drop p sheet) ∙ ap length e))
    go (r ∷ rs) e = omega (arith, fitting_some n r rs (omega (arith, row_size r (mem_drop p sheet (rw e (Memᴰ.head refl))))))

after_more : (p n : ℕ) → p ≤ after p n
unfolding after
after_more p n = omega arith

pub pages_rest : (ns : List ℕ) (p : ℕ) → ((n : ℕ) → Memᴰ n ns → 30 ≤ n) → length sheet ≤ p + length ns → pages p ns ≡ drop p sheet
unfolding pages
pages_rest [] p h l = sym (drop_of_length-le sheet {i = p} (omega arith))
pages_rest (n ∷ ns) p h l = rw (pages_rest ns (after p n) (λ k m. h k (Memᴰ.tail m)) (go (leb (length sheet) p) refl)) (page_part p n)
  where
    go : (b : Bool) → leb (length sheet) p ≡ b → length sheet ≤ after p n + length ns
    go false e = omega (arith, page_some p n (h n (Memᴰ.head refl)) (leb-false (length sheet) p e))
    go true e = omega (arith, after_more p n, leb-true (length sheet) p e)
