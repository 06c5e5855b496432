-- Laws of `trailing` and `seq` (`specs/Sequence.antt`). In order: a sequence that is cut off; one byte more; two, three and four bytes at an offset; the common sequences.
use mathlib.Core.Path.{◌≡◌, refl, sym, ◌∙◌}
use mathlib.Core.Bool.{Bool, true, false, cond, ◌&&◌}
use mathlib.Core.List.{List, [], ◌∷◌}
use Prim.Native.Nat.{ℕ, zero, suc, ◌+◌, ◌-◌, ◌%◌, ◌≤◌, ◌<◌}
use native.Mathlib.Numerals.{add-one}
use native.Mathlib.Omega.{arith}
use lib.ListN.{length, get_or, drop, length-drop, drop_of_length-le}
use lib.Seq.{drop-cons}
use borrow.Author.Tests.{ne_eqb}
use Rattle.text.specs.declared.Row.{Row}
use Rattle.text.specs.declared.Seq.{Seq}
use Rattle.text.specs.declared.Seq.TheVariants.{Char, Ill, End}
use Rattle.text.specs.Table.{row, row_of, within, trail, six}
use Rattle.text.specs.Sequence.{trailing, by_size, seq, HasLength}
use Rattle.text.proofs.RowLaws.{row_at, and-true, within_is}

cond_same : (b : Bool) (x : Seq) → cond b x x ≡ x
cond_same true x = refl
cond_same false x = refl

cond_and : (p q : Bool) (x y : Seq) → cond (p && q) x y ≡ cond p (cond q x y) y
cond_and true q x y = refl
cond_and false q x y = refl

-- too few bytes
pub trailing_cut : (n lo hi c l : ℕ) (s : List ℕ) → length s < n → trailing n lo hi c l s ≡ Ill
unfolding trailing
trailing_cut zero lo hi c l s h = absurd (omega arith)
trailing_cut (suc n) lo hi c l [] h = refl
trailing_cut (suc n) lo hi c l (x ∷ s) h = rw (trailing_cut n 0x80 0xBF (six c x) (l + 1) s (omega arith)) (cond_same (within lo hi x) Ill)

pub cut_at : (n lo hi c l : ℕ) (s : List ℕ) (at : ℕ) → at < length s → length s - at < n + 1 → Ill ≡ trailing n lo hi c l (drop (at + 1) s)
cut_at n lo hi c l s at h k = sym (trailing_cut n lo hi c l (drop (at + 1) s) (rw length-drop (omega arith)))

-- ---- bytes at an offset
module _ (s : List ℕ) where
  pub drop_at : (at : ℕ) → at < length s → drop at s ≡ get_or s at 0 ∷ drop (at + 1) s
  drop_at at h = rw (add-one) (drop-cons s at 0 h)

  trailing_at : (n lo hi c l i j : ℕ) → i < length s → j ≡ i + 1
      → trailing (suc n) lo hi c l (drop i s) ≡ cond (within lo hi (get_or s i 0)) (trailing n 0x80 0xBF (six c (get_or s i 0)) (l + 1) (drop j s)) Ill
  unfolding trailing
  trailing_at n lo hi c l i j h e = rw (drop_at i h, e)

  module _ (lo hi at lead : ℕ) where
    two_behind : 2 ≤ length s - at
        → cond (within lo hi (get_or s (at + 1) 0)) (Char (six lead (get_or s (at + 1) 0)) 2) Ill ≡ trailing 1 lo hi lead 1 (drop (at + 1) s)
    unfolding trailing
    two_behind h = rw (trailing_at 0 lo hi lead 1 (at + 1) (at + 2) (omega arith) (omega arith))

    three_behind : 3 ≤ length s - at
        → cond (within lo hi (get_or s (at + 1) 0) && trail (get_or s (at + 2) 0)) (Char (six (six lead (get_or s (at + 1) 0)) (get_or s (at + 2) 0)) 3) Ill
        ≡ trailing 2 lo hi lead 1 (drop (at + 1) s)
    unfolding trailing
    three_behind h =
        rw (cond_and, trailing_at 1 lo hi lead 1 (at + 1) (at + 2) (omega arith) (omega arith), trailing_at 0 0x80 0xBF _ _ (at + 2) (at + 3) (omega arith) (omega arith))

    four_behind : 4 ≤ length s - at
        → cond (within lo hi (get_or s (at + 1) 0) && trail (get_or s (at + 2) 0) && trail (get_or s (at + 3) 0))
        (Char (six (six (six lead (get_or s (at + 1) 0)) (get_or s (at + 2) 0)) (get_or s (at + 3) 0)) 4)
        Ill
        ≡ trailing 3 lo hi lead 1 (drop (at + 1) s)
    unfolding trailing
    four_behind h =
        rw (cond_and, cond_and, trailing_at 2 lo hi lead 1 (at + 1) (at + 2) (omega arith) (omega arith), trailing_at 1 0x80 0xBF _ _ (at + 2) (at + 3) (omega arith) (omega arith), trailing_at 0 0x80 0xBF _ _ (at + 3) (at + 4) (omega arith) (omega arith))

    -- the same of the tests and the bits as the code has them; apart, since omega would read the remainders of these equations
    module _ {p : Bool} {x : ℕ} (second : p ≡ within lo hi (get_or s (at + 1) 0)) (bits : x ≡ six lead (get_or s (at + 1) 0)) where
      pub two_at : 2 ≤ length s - at → cond p (Char x 2) Ill ≡ trailing 1 lo hi lead 1 (drop (at + 1) s)
      two_at h = rw (second, bits) (two_behind h)

      module _ {q : Bool} {y : ℕ} (third : q ≡ trail (get_or s (at + 2) 0)) (bits-y : y ≡ six x (get_or s (at + 2) 0)) where
        pub three_at : 3 ≤ length s - at → cond (p && q) (Char y 3) Ill ≡ trailing 2 lo hi lead 1 (drop (at + 1) s)
        three_at h = rw (second, third, bits-y, bits) (three_behind h)

        pub four_at : {r : Bool} {z : ℕ} → r ≡ trail (get_or s (at + 3) 0) → z ≡ six y (get_or s (at + 3) 0) → 4 ≤ length s - at
            → cond (p && q && r) (Char z 4) Ill ≡ trailing 3 lo hi lead 1 (drop (at + 1) s)
        four_at fourth bits-z h = rw (second, third, fourth, bits-z, bits-y, bits) (four_behind h)

  pub seq_end : (at : ℕ) → length s ≤ at → End ≡ seq (drop at s)
  unfolding seq
  seq_end at h = rw (drop_of_length-le s h)

  module _ (at : ℕ) (h : at < length s) (r : Row) (e : r ≡ row_of (get_or s at 0)) where
    seq_at : seq (drop at s) ≡ by_size r.0 r.1 r.2 (get_or s at 0) (drop (at + 1) s)
    unfolding seq
    seq_at = rw (drop_at at h, e)

    module _ {b : ℕ} (w : b ≡ get_or s at 0) where
      pub seq_one : r.0 ≡ 1 → Char b 1 ≡ seq (drop at s)
      unfolding by_size
      seq_one p = rw (seq_at, p, w)

      pub seq_two : r.0 ≡ 2 → trailing 1 r.1 r.2 (b % 32) 1 (drop (at + 1) s) ≡ seq (drop at s)
      unfolding by_size
      seq_two p = rw (seq_at, p, w)

      pub seq_three : r.0 ≡ 3 → trailing 2 r.1 r.2 (b % 16) 1 (drop (at + 1) s) ≡ seq (drop at s)
      unfolding by_size
      seq_three p = rw (seq_at, p, w)

      pub seq_four : r.0 ≡ 4 → trailing 3 r.1 r.2 (b % 8) 1 (drop (at + 1) s) ≡ seq (drop at s)
      unfolding by_size
      seq_four p = rw (seq_at, p, w)

    pub seq_none : (r.0 ≡ 1 → ⊥) → (r.0 ≡ 2 → ⊥) → (r.0 ≡ 3 → ⊥) → (r.0 ≡ 4 → ⊥) → Ill ≡ seq (drop at s)
    unfolding by_size
    seq_none n1 n2 n3 n4 = rw seq_at (simp (ne_eqb r.0 1 n1, ne_eqb r.0 2 n2, ne_eqb r.0 3 n3, ne_eqb r.0 4 n4))

-- ---- the common sequences
module _ (s : List ℕ) (at : ℕ) where
  pub common_one : at < length s → get_or s at 0 < 0x80 → HasLength s at 1
  unfolding row_of
  common_one h l = (get_or s at 0, sym (seq_one s at h (row 1 0 0) (row_at 0 0x80 _ tt (get_or s at 0) (omega arith) (omega arith)) refl refl))

  pub common_three : {p q r : Bool} → 3 ≤ length s - at → p ≡ within 0xE1 0xEC (get_or s at 0) → q ≡ within 0x80 0xBF (get_or s (at + 1) 0) → r ≡ within 0x80 0xBF (get_or s (at + 2) 0)
      → ((p && q) && r) ≡ true → HasLength s at 3
  unfolding row_of
  common_three {p} {q} {r} h first second third e =
      let pq = and-true (p && q) r e in
      let b = within_is 0xE1 0xEC (get_or s at 0) (sym first ∙ (and-true p q pq.0).0) in
      let lead = get_or s at 0 % 16 in
      let x = six lead (get_or s (at + 1) 0) in
      let row_is : row 3 0x80 0xBF ≡ row_of (get_or s at 0) = row_at 0xE1 12 _ tt (get_or s at 0) b.0 (omega arith) in
      let good : cond (q && r) (Char (six x (get_or s (at + 2) 0)) 3) Ill ≡ Char (six x (get_or s (at + 2) 0)) 3 = rw ((and-true p q pq.0).1, pq.1) in
      (_, sym (seq_three s at (omega arith) (row 3 0x80 0xBF) row_is refl refl) ∙ sym (three_at s 0x80 0xBF at lead second refl third refl h) ∙ good)
