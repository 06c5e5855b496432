-- Laws of ASCII bytes: looked at by a mask, and joined. No contract cites this file.
-- In order: bytes whose highest bits a mask finds clear; the bytes from an offset on; two parts that meet, and three; a part of them; UTF-8.
use mathlib.Core.Path.{◌≡◌, sym, ap, ◌∙◌, subst}
use mathlib.Core.Bool.{true}
use mathlib.Core.List.{List, [], ◌∷◌, ◌++◌}
use Prim.Native.Nat.{ℕ, zero, suc, ◌+◌, ◌-◌, ◌*◌, ◌/◌, ◌%◌, ◌^◌, ◌≤◌, ◌<◌}
use native.Mathlib.Omega.{arith}
use native.Mathlib.Decide.{dec_lt}
use lib.ListN.{length, get_or}
use lib.Dec.{lit<}
use borrow.Author.Tests.{le-leb, lt-ltb}
use lib.Bits.{bit_and, and_block, and_shr, and_mask}
use Rattle.fields.specs.Fields.{le, le_at}
use Rattle.fields.specs.Part.{part}
use Rattle.fields.proofs.PartLaws.{length_part, part_at}
use Rattle.text.specs.Text.{well_formed, left, is_nil}
use Rattle.text.specs.Sequence.{scalar, encode}
use Rattle.text.proofs.TextLaws.{left_nil, left_cons}
use Rattle.record_check.specs.Ascii.{Ascii}

-- the highest bit of each of m bytes
unfoldable highs : ℕ → ℕ
highs zero = 0
highs (suc m) = highs m * 256 + 128

byte_low : (b : ℕ) → b < 256 → bit_and b 128 ≡ 0 → b < 128
byte_low b h e =
    let k : b / 128 % 2 ≡ 0 = sym (and_mask (b / 128) 1) ∙ sym (and_shr b 128 7) ∙ ap (λ (x : ℕ). x / 128) e in
    omega arith

both_zero : (x y : ℕ) → x * 256 + y ≡ 0 → (x ≡ 0) × (y ≡ 0)
both_zero x y e = (omega arith, omega arith)

cons_low : (b : ℕ) (bs : List ℕ) → b < 128 → ((i : ℕ) → i < length bs → get_or bs i 0 < 128) → (i : ℕ) → i < suc (length bs) → get_or (b ∷ bs) i 0 < 128
cons_low b bs h f zero k = h
cons_low b bs h f (suc i) k = f i (omega arith)

le_low : (m : ℕ) (bs : List ℕ) → length bs ≤ m → ((i : ℕ) → i < length bs → get_or bs i 0 < 256) → bit_and (le bs) (highs m) ≡ 0 → (i : ℕ) → i < length bs → get_or bs i 0 < 128
unfolding le highs
le_low m [] h f e i k = absurd (omega arith)
le_low zero (b ∷ bs) h f e i k = absurd (omega arith)
le_low (suc m) (b ∷ bs) h f e i k =
    let g : b + 256 * le bs ≡ le bs * 2 ^ 8 + b = omega arith in
    let d : bit_and (b + 256 * le bs) (highs m * 256 + 128) ≡ bit_and (le bs) (highs m) * 256 + bit_and b 128
    = ap (λ (x : ℕ). bit_and x (highs m * 256 + 128)) g ∙ and_block 8 (le bs) (highs m) b 128 (f 0 (omega arith)) (lit< tt) in
    let z = both_zero (bit_and (le bs) (highs m)) (bit_and b 128) (sym d ∙ e) in
    cons_low b bs (byte_low b (f 0 (omega arith)) z.1) (le_low m bs (omega arith) (λ j l. f (suc j) (omega arith)) z.0) i k

-- ---- w bytes from an offset on
module _ (s : List ℕ) (at : ℕ) (f : (i : ℕ) → get_or s i 0 < 256) where
  word_low : (w : ℕ) → at + w ≤ length s → bit_and (le_at s at w) (highs w) ≡ 0 → Ascii s at (at + w)
  unfolding le_at
  word_low w h e =
      let c : length (part s at w) ≡ w = length_part s at w h in
      let low = le_low w (part s at w) (omega arith) (λ i k. rw (part_at s at w i (omega arith)) (f (at + i))) e in
      record { low = λ i z k. (let a : at + (i - at) ≡ i = omega arith in rw (← a, ← part_at s at w (i - at) (omega arith)) (low (i - at) (omega arith))) }

  pub eight_low : at + 8 ≤ length s → {x : ℕ} → x ≡ le_at s at 8 → bit_and x 0x8080808080808080 ≡ 0 → Ascii s at (at + 8)
  unfolding highs
  eight_low h d e = word_low 8 h (rw (← d) e)

  pub four_low : at + 4 ≤ length s → {x : ℕ} → x ≡ le_at s at 4 → bit_and x 0x80808080 ≡ 0 → Ascii s at (at + 4)
  unfolding highs
  four_low h d e = word_low 4 h (rw (← d) e)

-- ---- parts that meet
module _ (s : List ℕ) where
  ascii_join : (a b c d : ℕ) → c ≤ b → Ascii s a b → Ascii s c d → Ascii s a d
  ascii_join a b c d h p q = record { low = λ i z w. go i z w (dec_lt i b) }
    where
      go : (i : ℕ) → a ≤ i → i < d → Dec (i < b) → get_or s i 0 < 0x80
      go i z w (yes v) = p.low i z v
      go i z w (no v) = q.low i (omega arith) w

  pub three_low : (at n : ℕ) → 8 ≤ n → n ≤ 24 → Ascii s at (at + 8) → Ascii s (at + (n - 8) / 2) (at + (n - 8) / 2 + 8)
      → Ascii s (at + (n - 8)) (at + (n - 8) + 8) → Ascii s at (at + n)
  three_low at n h k p q r =
      let m = at + (n - 8) / 2 in
      let e : at + (n - 8) + 8 ≡ at + n = omega arith in
      ascii_join at (m + 8) (at + (n - 8)) (at + n) (omega arith) (ascii_join at (at + 8) m (m + 8) (omega arith) p q) (subst (Ascii s (at + (n - 8))) e r)

  pub ascii_part : (a b c d : ℕ) → a ≤ c → d ≤ b → Ascii s a b → Ascii s c d
  ascii_part a b c d h k p = record { low = λ i z w. p.low i (omega arith) (omega arith) }

-- ---- UTF-8
pub left_ascii : (b : ℕ) (s : List ℕ) → b < 0x80 → left (b ∷ s) ≡ left s
unfolding encode
left_ascii b s h =
    let e : encode b ≡ b ∷ [] = simp (lt-ltb b 0x80 h) in
    let k : scalar b ≡ true = simp (le-leb 0 b (omega arith), le-leb b 0xD7FF (omega arith)) in
    ap (λ (t : List ℕ). left (t ++ s)) (sym e) ∙ left_cons b s k

left_low : (t : List ℕ) → ((i : ℕ) → i < length t → get_or t i 0 < 0x80) → left t ≡ []
left_low [] h = left_nil
left_low (b ∷ t) h = left_ascii b t (h 0 (omega arith)) ∙ left_low t (λ i k. h (suc i) (omega arith))

pub ascii_formed : (s : List ℕ) (at n : ℕ) → at + n ≤ length s → Ascii s at (at + n) → well_formed (part s at n) ≡ true
ascii_formed s at n w a =
    let l : length (part s at n) ≡ n = length_part s at n w in
    ap is_nil (left_low (part s at n) (λ i k. rw (part_at s at n i (omega arith)) (a.low (at + i) (omega arith) (omega arith))))
