-- Laws of the type "digit", whose first four bytes are looked at as one number. No contract cites this file.
-- In order: four bytes and the number that they say; a part of another length; one of five bytes.
use mathlib.Core.Path.{◌≡◌, refl, sym, ap, ◌∙◌}
use mathlib.Core.Bool.{Bool, true, false, ◌&&◌}
use mathlib.Core.List.{List, [], ◌∷◌}
use Prim.Native.Nat.{ℕ, suc, ◌+◌, ◌*◌, ◌%◌, ◌≤◌, ◌<◌}
use native.Mathlib.Nat.{add-zero}
use native.Mathlib.Omega.{arith}
use native.Mathlib.Decide.{ℕ_discrete}
use lib.ListN.{length, get_or}
use lib.Dec.{eqb, lit<}
use borrow.Author.Tests.{eq-eqb, ne_eqb}
use Rattle.fields.specs.Fields.{le, le_at}
use Rattle.fields.specs.Part.{part}
use Rattle.fields.proofs.PartLaws.{length_part}
use Rattle.text.specs.Bytes.{same}
use Rattle.text.proofs.BytesLaws.{same_lengths}
use Rattle.table.specs.Check.{digit, is_digit_type}
use Rattle.table.proofs.ContentLaws.{part_cons}

-- ---- four bytes
-- numbers in bytes are equal where their lowest bytes are and the rest
lowest : (b x k y : ℕ) → b < 256 → k < 256 → eqb (b + 256 * x) (k + 256 * y) ≡ (eqb b k && eqb x y)
lowest b x k y h l = go (ℕ_discrete b k) (ℕ_discrete x y)
  where
    m : (b x : ℕ) → b < 256 → (b + 256 * x) % 256 ≡ b
    m b x h = omega arith

    go : Dec (b ≡ k) → Dec (x ≡ y) → eqb (b + 256 * x) (k + 256 * y) ≡ (eqb b k && eqb x y)
    go (no e) f = ne_eqb (b + 256 * x) (k + 256 * y) (λ z. e (sym (m b x h) ∙ ap (λ (n : ℕ). n % 256) z ∙ m k y l)) ∙ sym (rw (ne_eqb b k e))
    go (yes e) (no f) = ne_eqb (b + 256 * x) (k + 256 * y) (λ z. f (omega arith)) ∙ sym (rw (eq-eqb b k e, ne_eqb x y f))
    go (yes e) (yes f) = eq-eqb (b + 256 * x) (k + 256 * y) (omega arith) ∙ sym (rw (eq-eqb b k e, eq-eqb x y f))

four : (a b c d : ℕ) → a < 256 → b < 256 → c < 256 → eqb (a + 256 * (b + 256 * (c + 256 * (d + 256 * 0)))) 0x69676964 ≡ (eqb a 100 && (eqb b 105 && (eqb c 103 && eqb d 105)))
four a b c d ha hb hc =
    lowest a (b + 256 * (c + 256 * (d + 256 * 0))) 100 0x696769 ha (lit< tt)
    ∙ ap (λ (z : Bool). eqb a 100 && z) (lowest b (c + 256 * (d + 256 * 0)) 105 0x6967 hb (lit< tt) ∙ ap (λ (z : Bool). eqb b 105 && z) (lowest c (d + 256 * 0) 103 105 hc (lit< tt) ∙ ap (λ (n : ℕ). eqb c 103 && eqb n 105) (add-zero d)))

-- ---- a part
pub digit_length : (s : List ℕ) (at n : ℕ) → at + n ≤ length s → (n ≡ 5 → ⊥) → false ≡ is_digit_type (part s at n)
digit_length s at n w h = same_lengths _ _ (λ e. h (sym (length_part s at n w) ∙ e))

join : (a b c d e : Bool) → ((a && (b && (c && d))) && e) ≡ (a && (b && (c && (d && (e && true)))))
join false b c d e = refl
join true false c d e = refl
join true true false d e = refl
join true true true false e = refl
join true true true true false = refl
join true true true true true = refl

module _ (s : List ℕ) (at : ℕ) (h : at + 5 ≤ length s) where
  more : (i n : ℕ) → i < 5 → part s (at + i) (suc n) ≡ get_or s (at + i) 0 ∷ part s (at + (i + 1)) n
  more i n k = part_cons s (at + i) n (at + (i + 1)) (omega arith) (omega arith)

  digit_five : ((i : ℕ) → get_or s i 0 < 256) → (eqb (le_at s at 4) 0x69676964 && eqb (get_or s (at + 4) 0) 116) ≡ is_digit_type (part s at 5)
  unfolding le_at le same part
  digit_five f =
      let e : at ≡ at + 0 = omega arith in
      let four_bytes : part s at 4 ≡ get_or s (at + 0) 0 ∷ get_or s (at + 1) 0 ∷ get_or s (at + 2) 0 ∷ get_or s (at + 3) 0 ∷ []
      = ap (λ (j : ℕ). part s j 4) e ∙ rw (more 0 3 (omega arith), more 1 2 (omega arith), more 2 1 (omega arith), more 3 0 (omega arith)) in
      let five-bytes : part s at 5 ≡ get_or s (at + 0) 0 ∷ get_or s (at + 1) 0 ∷ get_or s (at + 2) 0 ∷ get_or s (at + 3) 0 ∷ get_or s (at + 4) 0 ∷ []
      = ap (λ (j : ℕ). part s j 5) e ∙ rw (more 0 4 (omega arith), more 1 3 (omega arith), more 2 2 (omega arith), more 3 1 (omega arith), more 4 0 (omega arith)) in
      let x = four (get_or s (at + 0) 0) (get_or s (at + 1) 0) (get_or s (at + 2) 0) (get_or s (at + 3) 0) (f (at + 0)) (f (at + 1)) (f (at + 2)) in
      ap (λ (t : List ℕ). eqb (le t) 0x69676964 && eqb (get_or s (at + 4) 0) 116) four_bytes
      ∙ ap (λ (z : Bool). z && eqb (get_or s (at + 4) 0) 116) x
      ∙ join (eqb (get_or s (at + 0) 0) 100) (eqb (get_or s (at + 1) 0) 105) (eqb (get_or s (at + 2) 0) 103) (eqb (get_or s (at + 3) 0) 105) (eqb (get_or s (at + 4) 0) 116)
      ∙ sym (ap (λ (t : List ℕ). same t digit) five-bytes)

pub digit_is : (s : List ℕ) (at n : ℕ) {first : ℕ} → at + n ≤ length s → n ≡ 5 → ((i : ℕ) → get_or s i 0 < 256) → first ≡ le_at s at 4
    → (eqb first 0x69676964 && eqb (get_or s (at + 4) 0) 116) ≡ is_digit_type (part s at n)
digit_is s at n w e f g = rw (g, e) (digit_five s at (omega arith) f)
