-- What the functions of `numeral::state` answer on each way out, in plain variables (`specs/Numeral.antt`).
-- In order: a test's two sides; atoms; the line's end.
use Prim.Native.Nat.{ℕ, ◌+◌, ◌*◌, ◌/◌, ◌≤◌, ◌<◌}
use mathlib.Core.Path.{◌≡◌, ◌∙◌}
use mathlib.Core.Bool.{Bool, true, false, cond, ◌&&◌}
use mathlib.Core.Option.{none, some}
use lib.Dec.{leb, eqb}
use borrow.Author.Tests.{le-leb, lt-leb, eq-eqb, ne_eqb}
use Rattle.whole.specs.Whole.{TOP}
use Rattle.numeral.specs.declared.Blocks.{Blocks}
use Rattle.numeral.specs.declared.Atoms.{Atoms}
use Rattle.numeral.specs.Numeral.{in_numeral, in_small, grown, another, with_digit, with_ten, total, fits, retagged, result}
use Rattle.numeral.specs.Field.{answered}
use Rattle.numeral.specs.Walk.{capped, valued}
use Rattle.std.specs.Prelude.{Option, Some, None, Ok, Err}
use Rattle.numeral.specs.declared.FieldRefusal.TheVariants as FieldRefusal

-- ---- a test's two sides
pub passed : {A : Type 0} {t : Bool} (x y : A) → t ≡ true → x ≡ cond t x y
passed x y e = rw e

pub not_passed : {A : Type 0} {t : Bool} (x y : A) → t ≡ false → y ≡ cond t x y
not_passed x y e = rw e

pub answer_within : (v : ℕ) → v ≤ TOP → Ok (Some v) ≡ answered (some v)
answer_within v h = passed _ _ (le-leb v TOP h)

pub answer_above : (v : ℕ) → TOP < v → Err FieldRefusal.AboveTop ≡ answered (some v)
answer_above v h = not_passed _ _ (lt-leb v TOP h)

-- ---- atoms
module _ (s : Atoms) (d : ℕ) where
  pub digit_grows : (p : ℕ) (r : Atoms) → s.base ≡ 1 → p ≡ capped (10 * s.value + d) → r ≡ grown s p 1 → r ≡ with_digit capped s d
  digit_grows p r h ep er = er ∙ rw (eq-eqb s.base 1 h, ep)

  pub digit_begins : (r : Atoms) → (s.base ≡ 1 → ⊥) → r ≡ another capped s d 1 true → r ≡ with_digit capped s d
  digit_begins r h er = er ∙ not_passed _ _ (ne_eqb s.base 1 h)

  pub ten_grows : (t : ℕ) (r : Atoms) → eqb s.base 1 && leb 1 s.value ≡ true → t ≡ capped (s.value * d) → r ≡ grown s t d → r ≡ with_ten capped s d
  ten_grows t r h et er = er ∙ rw (h, et)

  pub ten_begins : (r : Atoms) → eqb s.base 1 && leb 1 s.value ≡ false → r ≡ another capped s d d false → r ≡ with_ten capped s d
  ten_begins r h er = er ∙ not_passed _ _ h

-- ---- the line's end
pub empty_ends : (b : Blocks) → b.base ≡ 0 → None ≡ valued (result capped (in_numeral b))
empty_ends b h = rw (eq-eqb b.base 0 h)

pub blocks_end : (b : Blocks) → (b.base ≡ 0 → ⊥) → Some b.sum ≡ valued (result capped (in_numeral b))
blocks_end b h = rw (ne_eqb b.base 0 h)

-- a last small that counts as v and n
module _ (b : Blocks) (v n : ℕ) where
  pub last_fits : {t : Bool} (p : ℕ) → t ≡ fits b v n → t ≡ true → p ≡ capped (b.sum + v) → Some p ≡ valued (cond (fits b v n) (some (capped (b.sum + v))) none)
  last_fits p e h ep = rw (← e, h, ep)

  pub last_too_large : {t : Bool} → t ≡ fits b v n → t ≡ false → None ≡ valued (cond (fits b v n) (some (capped (b.sum + v))) none)
  last_too_large e h = rw (← e, h)

module _ (b : Blocks) (s : Atoms) (r : Option ℕ) where
  pub single_ends : (t : ℕ) → retagged b s ≡ true → t ≡ capped (s.value * (b.base / 10)) → r ≡ valued (cond (fits b t (b.base / 10)) (some (capped (b.sum + t))) none) → r ≡ valued (result capped (in_small b s))
  single_ends t h et er = er ∙ rw (h, et)

  pub small_ends : (t : ℕ) → retagged b s ≡ false → t ≡ total capped s → r ≡ valued (cond (fits b t s.base) (some (capped (b.sum + t))) none) → r ≡ valued (result capped (in_small b s))
  small_ends t h et er = er ∙ rw (h, et)
