-- Laws of a point at a place of the line, by the byte there (`point_at`): a point, and no other character, begins with its byte. No contract cites this file.
-- In order: whether it counts; a character's first byte; a place of the line. Assumes nothing.
use mathlib.Core.Path.{◌≡◌, refl, sym, ap, ◌∙◌}
use mathlib.Core.Bool.{Bool, true, false, ◌&&◌, not, true≢false, false≢true}
use mathlib.Core.List.{List, ◌++◌}
use Prim.Native.Nat.{ℕ, ◌+◌, ◌/◌, ◌≤◌, ◌<◌}
use native.Mathlib.Omega.{arith}
use native.Mathlib.Decide.{dec_le}
use lib.ListN.{length, get_or, drop, get_or-eq_default}
use lib.Seq.{get_or-drop}
use lib.Dec.{eqb}
use borrow.Author.Tests.{ne_eqb}
use Rattle.text.specs.Sequence.{encode}
use Rattle.text.specs.Text.{chars, well_formed, offset_of}
use Rattle.text.proofs.EncodeLaws.{by_size_lem, seq_char}
use Rattle.text.proofs.PlaceLaws.{Reached, reached_place, reached_count, reached_here}
use Rattle.text.proofs.known.KnownLaws.{reached_stands, reached_end}
use Rattle.passes.specs.DecimalPasses.{point_character}

-- ---- whether it counts: b says so where x does
pub counts_not : (b x : Bool) → not b ≡ true → false ≡ (b && x)
counts_not true x e = absurd (false≢true e)
counts_not false x e = refl

pub counts_as : (b : Bool) {x y : Bool} → not b ≡ false → y ≡ x → y ≡ (b && x)
counts_as true e h = h
counts_as false e h = absurd (true≢false e)

-- ---- a character's first byte
first_byte : (c : ℕ) (s : List ℕ) → eqb (get_or (encode c ++ s) 0 0) point_character ≡ eqb c point_character
first_byte c s =
    by_size_lem c (λ (bs : List ℕ). eqb (get_or (bs ++ s) 0 0) point_character ≡ eqb c point_character)
    (λ h. refl)
    (λ h k. other (0xC0 + c / 64) (omega arith) h)
    (λ h k. other (0xE0 + c / 64 / 64) (omega arith) (omega arith))
    (λ h. other (0xF0 + c / 64 / 64 / 64) (omega arith) (omega arith))
  where
    other : (b : ℕ) → 0x80 ≤ b → 0x80 ≤ c → eqb b point_character ≡ eqb c point_character
    other b h k = ne_eqb b point_character (λ e. omega arith) ∙ sym (ne_eqb c point_character (λ e. omega arith))

-- ---- a place of the line, its end included; at is its offset
module _ (line : List ℕ) (formed : well_formed line ≡ true) (p : ℕ) (inside : p ≤ length (chars line)) where
  reached : Reached line p (offset_of line p)
  reached = reached_place line p inside

  module _ {at : ℕ} (here : at ≡ offset_of line p) where
    -- the line ends there
    pub point_end : at ≡ length line → false ≡ eqb (get_or (chars line) p 0) point_character
    point_end h =
        let none_left = ap length (reached_end line formed p (offset_of line p) reached (omega arith)) in
        let all : length (chars line) ≤ p = omega (arith, reached_count line p (offset_of line p) reached, none_left) in
        rw (get_or-eq_default (chars line) 0 {n = p} all)

    pub point_inside : (at ≡ length line → ⊥) → at < length line
    point_inside h = elim (dec_le (length line) at) [
      | yes k ↦ absurd (h (omega (arith, reached.inside)))
      | no k ↦ omega arith
    ]

    pub point_here : (at ≡ length line → ⊥) → eqb (get_or line at 0) point_character ≡ eqb (get_or (chars line) p 0) point_character
    point_here h =
        let r : Reached line p at = rw here reached in
        let s = reached_stands line formed p at r (point_inside h) in
        let z : at + 0 ≡ at = omega arith in
        let byte : get_or line at 0 ≡ get_or (drop at line) 0 0 = sym (get_or-drop at line 0 0 ∙ ap (λ (i : ℕ). get_or line i 0) z) in
        ap (λ (b : ℕ). eqb b point_character) (byte ∙ ap (λ (bs : List ℕ). get_or bs 0 0) (seq_char (drop at line) s.code s.len s.here).split)
        ∙ first_byte s.code _
        ∙ ap (λ (c : ℕ). eqb c point_character) (sym (reached_here line p at r s.code s.len s.here).1)
