-- Laws of the digit rule (`specs/Digit.antt`), by the way that its tests go. No contract cites this file.
use mathlib.Core.Path.{◌≡◌, refl, sym, ap, ◌∙◌}
use mathlib.Core.Bool.{Bool, true, false, cond, and-true}
use mathlib.Core.List.{List, [], ◌∷◌}
use mathlib.Core.Option.{Option, none, some}
use Prim.Native.Nat.{ℕ, ◌+◌, ◌≤◌, ◌<◌}
use native.Mathlib.Omega.{arith}
use lib.ListN.{length, get_or}
use lib.Seq.{drop-cons}
use lib.Dec.{eqb}
use borrow.Author.Tests.{lt-ltb, le-ltb}
use Rattle.fields.specs.Part.{part, part_of}
use Rattle.fields.proofs.PartLaws.{length_part}
use Rattle.text.specs.Bytes.{same}
use Rattle.text.proofs.BytesLaws.{same_lengths}
use Rattle.table.specs.Table.{Text}
use Rattle.table.specs.Layout.{bit}
use Rattle.table.specs.Check.{is_digit_type, legal_digit}
use Rattle.table.specs.Answers.{optionally, Within}
use Rattle.fields.specs.declared.Part.{Part}
use Rattle.table.specs.Digit.{digit_fine}

-- ---- a rom of one byte, or of another length
same_one : (s : List ℕ) (at y : ℕ) → at < length s → eqb (get_or s at 0) y ≡ same (part s at 1) (y ∷ [])
unfolding part same
same_one s at y h = rw (drop-cons s at 0 h) (sym (and-true _))

same_other : (s : List ℕ) (at n y : ℕ) → at + n ≤ length s → (n ≡ 1 → ⊥) → false ≡ same (part s at n) (y ∷ [])
same_other s at n y w h = same_lengths _ _ (λ e. h (sym (length_part s at n w) ∙ e))

-- ---- t says that the type is "digit", b that there is a value v
no_value : (v : ℕ) (t : Bool) {b : Bool} (x : Option Text) → b ≡ false → true ≡ cond t (legal_digit (optionally b v) x) true
unfolding legal_digit
no_value v true x e = rw e
no_value v false x e = refl

large_value_lem : (v : ℕ) (t b : Bool) (x : Option Text) → 9 < v → true ≡ cond t (legal_digit (optionally b v) x) true
unfolding legal_digit
large_value_lem v true true none h = simp (lt-ltb 9 v h)
large_value_lem v true true (some x) h = simp (lt-ltb 9 v h)
large_value_lem v true false x h = refl
large_value_lem v false b x h = refl

-- ---- the rule, for the parts of a record
module _ (s : List ℕ) (m v : ℕ) (t r : Part) where
  pub digit_no_value : bit m 1 ≡ false → true ≡ digit_fine m v (part_of s t) (part_of s r)
  digit_no_value e = no_value v (is_digit_type (part_of s t)) (optionally (bit m 0) (part_of s r)) e

  pub digit_large_lem : 9 < v → true ≡ digit_fine m v (part_of s t) (part_of s r)
  digit_large_lem h = large_value_lem v (is_digit_type (part_of s t)) (bit m 1) (optionally (bit m 0) (part_of s r)) h

  pub digit_other : is_digit_type (part_of s t) ≡ false → true ≡ digit_fine m v (part_of s t) (part_of s r)
  digit_other e = rw e

  module _ (is : is_digit_type (part_of s t) ≡ true) (there : bit m 1 ≡ true) (h : v ≤ 9) where
    pub digit_no_rom : bit m 0 ≡ false → false ≡ digit_fine m v (part_of s t) (part_of s r)
    unfolding legal_digit
    digit_no_rom e = rw (is, there, e) (simp (le-ltb 9 v h))

    rom_decides : bit m 0 ≡ true → same (part_of s r) ((48 + v) ∷ []) ≡ digit_fine m v (part_of s t) (part_of s r)
    unfolding legal_digit
    rom_decides e = rw (is, there, e) (simp (le-ltb 9 v h))

    module _ (e : bit m 0 ≡ true) (w : Within s r) where
      pub digit_long_rom : (r.len ≡ 1 → ⊥) → false ≡ digit_fine m v (part_of s t) (part_of s r)
      digit_long_rom l = same_other s r.at.0 r.len _ w l ∙ rom_decides e

      pub digit_rom : r.len ≡ 1 → eqb (get_or s r.at.0 0) (48 + v) ≡ digit_fine m v (part_of s t) (part_of s r)
      digit_rom l = same_one s r.at.0 (48 + v) (omega arith) ∙ ap (λ (n : ℕ). same (part s r.at.0 n) ((48 + v) ∷ [])) (sym l) ∙ rom_decides e
