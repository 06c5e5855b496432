-- What a character is worth to the way over the line (`specs/Walk.antt`), case by case, for the proofs of the code.
use Prim.Native.Nat.{ℕ, ◌*◌, ◌≤◌}
use mathlib.Core.Path.{◌≡◌, refl, ap, ◌∙◌}
use mathlib.Core.Bool.{Bool, true, false}
use native.Mathlib.Omega.{arith}
use Rattle.std.specs.Int.{from_bool}
use Rattle.fields.specs.Flag.{flag}
use Rattle.numeral.specs.declared.Glyph.{Glyph}
use Rattle.numeral.specs.Walk.{capped}
use Rattle.weights.specs.declared.units.Units.{Units}
use Rattle.weights.specs.Walk.{is_weighed, before, after_large}

-- ---- anything but a digit
pub not_digit : (g : Glyph) → ((v : ℕ) → g ≡ Glyph.Digit v → ⊥) → false ≡ is_weighed g
not_digit (Glyph.Digit v) h = absurd (h v refl)
not_digit (Glyph.Ten v) h = refl
not_digit (Glyph.Large v) h = refl
not_digit Glyph.Other h = refl
not_digit Glyph.End h = refl

-- the count of one character
pub counted_one : {b d : Bool} {n : ℕ} → b ≡ d → n ≡ from_bool b → (n ≡ flag d) × (n ≤ 1)
counted_one {b = true} {n = n} e q = let one : n ≡ 1 = q in (one ∙ ap flag e, omega arith)
counted_one {b = false} {n = n} e q = let none : n ≡ 0 = q in (none ∙ ap flag e, omega arith)

-- ---- one character on
module _ (u : Units) {g : Glyph} {n : ℕ} where
  pub before_digit : (v : ℕ) → g ≡ Glyph.Digit v → n ≡ capped (10 * u.digit) → ◌≡◌ {A = Units} (record { digit = n; member = u.member }) (before capped u g)
  before_digit v e q = rw (e, q)

  pub before_ten : (v : ℕ) → g ≡ Glyph.Ten v → n ≡ capped (v * u.member) → ◌≡◌ {A = Units} (record { digit = n; member = u.member }) (before capped u g)
  before_ten v e q = rw (e, q)

pub before_large : (u : Units) {g : Glyph} (v : ℕ) → g ≡ Glyph.Large v → ◌≡◌ {A = Units} (record { digit = v; member = v }) (before capped u g)
before_large u v e = rw e

-- ---- the last of two characters
pub not_large : (g : Glyph) → ((v : ℕ) → g ≡ Glyph.Large v → ⊥) → 1 ≡ after_large g
not_large (Glyph.Digit v) h = refl
not_large (Glyph.Ten v) h = refl
not_large (Glyph.Large v) h = absurd (h v refl)
not_large Glyph.Other h = refl
not_large Glyph.End h = refl
