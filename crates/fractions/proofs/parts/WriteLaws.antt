-- The edges that are written, as they are defined (`specs/NewParts.antt`). No contract cites this file.
-- In order: a percentage; the fields of a fraction. Assumes nothing.
use mathlib.Core.Path.{◌≡◌, refl}
use mathlib.Core.List.{List, []}
use Prim.Native.Nat.{ℕ, ◌+◌, ◌≤◌}
use native.Mathlib.Omega.{arith}
use lib.ListN.{length}
use Rattle.fields.proofs.PartLaws.{part_all}
use Rattle.edge.specs.Edge.{Text}
use Rattle.edge.specs.View.{numeric_of}
use Rattle.edge.specs.Write.{regular, numeric, Writable}
use Rattle.numbers.specs.Fractions.{fraction_type}
use Rattle.fractions.specs.NewParts.{script_from, script_len, fraction_fields, fraction_with}
use Rattle.std.specs.Prelude.{Option, Some, None}

-- ---- a percentage
pub regular_is : {a b y z : ℕ} {s t : Text} (ty : Text) → a ≡ b → y ≡ z → s ≡ t → regular a y ty s ≡ regular b z ty t
regular_is ty p q r = rw (p, q, r)

-- ---- the fields of a fraction
module _ (t c : List ℕ) (a b : ℕ) where
  pub fields_edge : (s : Option ℕ) (x z : ℕ) → numeric x z fraction_type t t c [] (fraction_fields (length t) a b s) ≡ fraction_with x z t (a, b) (script_from c s)
  unfolding fraction_fields fraction_with script_from numeric_of
  fields_edge None x z = rw (part_all t)
  fields_edge (Some k) x z = rw (part_all t)

  pub fields_writable : (s : Option ℕ) → length t ≤ 300 → script_len s ≤ 60 → 60 ≤ length c → Writable t c [] (fraction_fields (length t) a b s)
  unfolding fraction_fields
  fields_writable None h k r = record { numeric = refl; map = omega arith; orig = omega arith; script = λ p. omega arith; value_s = λ p. omega arith; orig_len = omega arith; script_len = omega arith; value_s_len = omega arith }
  fields_writable (Some k) h q r = record { numeric = refl; map = omega arith; orig = omega arith; script = λ p. omega arith; value_s = λ p. omega arith; orig_len = omega arith; script_len = omega arith; value_s_len = omega arith }

  pub fields_short : (s : Option ℕ) → script_len s ≤ 60 → (fraction_fields (length t) a b s).orig.len + (fraction_fields (length t) a b s).script.len + (fraction_fields (length t) a b s).value_s.len ≤ length t + 60
  unfolding fraction_fields
  fields_short None h = omega arith
  fields_short (Some k) h = omega arith
