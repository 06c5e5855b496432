-- Laws of a character that is known to stand at an offset, for this crate's proof and its callers'.
-- In order: the bytes behind a lead byte tell the code point; a sequence by comparisons of its lead byte; a walk over a well-formed line.
use mathlib.Core.Path.{◌≡◌, refl, sym, ◌∙◌}
use mathlib.Core.Bool.{true}
use mathlib.Core.List.{List, [], ◌∷◌}
use Prim.Native.Nat.{ℕ, zero, suc, ◌+◌, ◌%◌, ◌≤◌, ◌<◌}
use native.Mathlib.Omega.{arith}
use native.Mathlib.Decide.{dec_le}
use lib.ListN.{length, get_or, drop, drop_of_length-le, length-drop}
use lib.Seq.{get_or-drop}
use Rattle.text.specs.declared.Seq.TheVariants.{Char, Ill}
use Rattle.text.specs.Table.{row_of, within, six, bits}
use Rattle.text.specs.Sequence.{trailing, by_size, seq, encode}
use Rattle.text.specs.Text.{chars, well_formed}
use Rattle.text.proofs.RowLaws.{cond_cases, by_row}
use Rattle.text.proofs.SequenceLaws.{drop_at, seq_end}
use Rattle.text.proofs.TextLaws.{chars_nil}
use Rattle.text.proofs.PlaceLaws.{Reached, offset_end, char_at_place}
use Rattle.text.specs.Known.{Stands}

-- ---- n bytes of s behind the bits m
abbrev sixes : ℕ → ℕ → List ℕ → ℕ
sixes zero m s = m
sixes (suc n) m [] = m
sixes (suc n) m (x ∷ s) = sixes n (six m x) s

ill_char : {A : Type 0} {c l : ℕ} → Ill ≡ Char c l → A
ill_char e = let z : ◌≡◌ {A = ℕ} 0 1 = cc in absurd (omega arith)

-- a character c of l bytes: n of them are those behind the lead byte, whose bits are m
pub record Behind (n m c l : ℕ) (s : List ℕ) : Type 0 where
  pub fits : n ≤ length s
  pub code : sixes n m s ≡ c
  pub len : n + 1 ≡ l

module _ (c l : ℕ) where
  trailing_known : (n lo hi m k : ℕ) (s : List ℕ) → trailing n lo hi m k s ≡ Char c l → (n ≤ length s) × (sixes n m s ≡ c) × (k + n ≡ l)
  unfolding trailing
  trailing_known zero lo hi m k s e = let p : k ≡ l = cc in (omega arith, cc, omega arith)
  trailing_known (suc n) lo hi m k [] e = ill_char e
  trailing_known (suc n) lo hi m k (x ∷ s) e =
      cond_cases (λ q. q ≡ Char c l → (suc n ≤ suc (length s)) × (sixes n (six m x) s ≡ c) × (k + suc n ≡ l)) (within lo hi x)
      (λ t f. let h = trailing_known n 0x80 0xBF (six m x) (k + 1) s f in (omega arith, h.1, omega arith))
      (λ t f. ill_char f)
      e

  module _ (b : ℕ) (s : List ℕ) where
    -- the same of a lead byte of n + 1 bytes
    behind : (n lo hi m : ℕ) → trailing n lo hi m 1 s ≡ Char c l → Behind n m c l s
    behind n lo hi m e = let h = trailing_known n lo hi m 1 s e in record { fits = h.0; code = h.1; len = omega arith }

    -- ---- by the length that the row of the lead byte gives
    module _ (n lo hi : ℕ) (e : by_size n lo hi b s ≡ Char c l) where
      by_one : n ≡ 1 → Behind 0 b c l s
      unfolding by_size trailing
      by_one p = behind 0 0 0 b (rw p at e)

      by_two : n ≡ 2 → Behind 1 (b % 32) c l s
      unfolding by_size
      by_two p = behind 1 lo hi (b % 32) (rw p at e)

      by_three : n ≡ 3 → Behind 2 (b % 16) c l s
      unfolding by_size
      by_three p = behind 2 lo hi (b % 16) (rw p at e)

      by_four : n ≡ 4 → Behind 3 (b % 8) c l s
      unfolding by_size
      by_four p = behind 3 lo hi (b % 8) (rw p at e)

    -- ---- that length where a character stands: a lead byte with no row begins none
    row_len : (n : ℕ) → (b ≤ 0x7F → 1 ≡ n) → (0xC2 ≤ b → b ≤ 0xDF → 2 ≡ n) → (0xE0 ≤ b → b ≤ 0xEF → 3 ≡ n) → (0xF0 ≤ b → 4 ≡ n)
        → by_size (row_of b).0 (row_of b).1 (row_of b).2 b s ≡ Char c l → (row_of b).0 ≡ n
    unfolding by_size
    row_len n one two three four =
        by_row b (λ r. by_size r.0 r.1 r.2 b s ≡ Char c l → r.0 ≡ n)
        (λ h e. one h) (λ h k e. two h k)
        (λ h e. three (omega arith) (omega arith)) (λ h k e. three (omega arith) (omega arith)) (λ h e. three (omega arith) (omega arith)) (λ h k e. three (omega arith) k)
        (λ h e. four (omega arith)) (λ h k e. four (omega arith)) (λ h e. four (omega arith)) (λ h k e. ill_char e)

-- ---- the same at an offset
sixes_last : (n m : ℕ) (s : List ℕ) → n < length s → sixes (suc n) m s ≡ six (sixes n m s) (get_or s n 0)
sixes_last n m [] h = absurd (omega arith)
sixes_last zero m (x ∷ s) h = refl
sixes_last (suc n) m (x ∷ s) h = sixes_last n (six m x) s (omega arith)

sixes_bits : (s : List ℕ) (at m n : ℕ) → at + n < length s → sixes n m (drop (at + 1) s) ≡ bits s at m n
sixes_bits s at m zero h = refl
sixes_bits s at m (suc n) h =
    let z : at + 1 + n ≡ at + suc n = omega arith in
    sixes_last n m (drop (at + 1) s) (rw length-drop (omega arith))
    ∙ rw (sixes_bits s at m n (omega arith), get_or-drop, z)

module _ {s : List ℕ} {at : ℕ} (h : Stands s at) where
  pub inside : at < length s
  inside = elim (dec_le (length s) at) [
    | yes k ↦ let z : ◌≡◌ {A = ℕ} 0 1 = cc (seq_end s at k, h.here) in absurd (omega arith)
    | no k ↦ omega arith
  ]

  -- n bytes stand behind the lead byte, whose bits are m
  abbrev pub At : ℕ → ℕ → Type 0
  At n m = Behind n m h.code h.len (drop (at + 1) s)

  module _ {n m : ℕ} (k : At n m) where
    pub bytes_inside : at + n < length s
    bytes_inside = omega (arith, inside, k.fits, length-drop (at + 1) s)

    pub bytes_char : {x : ℕ} → x ≡ bits s at m n → Char x (n + 1) ≡ seq (drop at s)
    bytes_char {x} e =
        let c : x ≡ h.code = e ∙ sym (sixes_bits s at m n bytes_inside) ∙ k.code in
        let l : n + 1 ≡ h.len = k.len in
        cc h.here

  -- the code's lead is the byte b there; comparisons of it tell the length
  module _ {b lead : ℕ} (i : b ≡ get_or s at 0) (e : lead ≡ b) where
    read : by_size (row_of b).0 (row_of b).1 (row_of b).2 b (drop (at + 1) s) ≡ Char h.code h.len
    unfolding seq
    read = rw i (rw (drop_at s at inside) at h.here)

    len_is : (n : ℕ) → (b ≤ 0x7F → 1 ≡ n) → (0xC2 ≤ b → b ≤ 0xDF → 2 ≡ n) → (0xE0 ≤ b → b ≤ 0xEF → 3 ≡ n) → (0xF0 ≤ b → 4 ≡ n) → (row_of b).0 ≡ n
    len_is n one two three four = row_len h.code h.len b (drop (at + 1) s) n one two three four read

    pub one_at : b < 0x80 → At 0 lead
    one_at p =
        let n = len_is 1 (λ l. refl) (λ l k. omega arith) (λ l k. omega arith) (λ l. omega arith) in
        rw e (by_one h.code h.len b (drop (at + 1) s) (row_of b).0 (row_of b).1 (row_of b).2 read n)

    pub two_at : 0x80 ≤ b → b < 0xE0 → At 1 (lead % 32)
    two_at p q =
        let n = len_is 2 (λ l. omega arith) (λ l k. refl) (λ l k. omega arith) (λ l. omega arith) in
        rw e (by_two h.code h.len b (drop (at + 1) s) (row_of b).0 (row_of b).1 (row_of b).2 read n)

    pub three_at : 0xE0 ≤ b → b < 0xF0 → At 2 (lead % 16)
    three_at p q =
        let n = len_is 3 (λ l. omega arith) (λ l k. omega arith) (λ l k. refl) (λ l. omega arith) in
        rw e (by_three h.code h.len b (drop (at + 1) s) (row_of b).0 (row_of b).1 (row_of b).2 read n)

    pub four_at : 0xF0 ≤ b → At 3 (lead % 8)
    four_at p =
        let n = len_is 4 (λ l. omega arith) (λ l k. omega arith) (λ l k. omega arith) (λ l. refl) in
        rw e (by_four h.code h.len b (drop (at + 1) s) (row_of b).0 (row_of b).1 (row_of b).2 read n)

-- ---- a walk over a well-formed line: a character stands wherever the line goes on
module _ (s : List ℕ) (f : well_formed s ≡ true) (n at : ℕ) (r : Reached s n at) where
  pub reached_stands : at < length s → Stands s at
  reached_stands h = elim (dec_le (length (chars s)) n) [
    | yes k ↦ absurd (omega (arith, offset_end s f n k, r.offset))
    | no k ↦ record { code = get_or (chars s) n 0; len = length (encode (get_or (chars s) n 0)); here = rw r.offset at (char_at_place s n (omega arith)) }
  ]

  pub reached_end : length s ≤ at → chars (drop at s) ≡ []
  reached_end h = rw (drop_of_length-le s h) chars_nil
