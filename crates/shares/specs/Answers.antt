-- What the functions of `shares` take and answer. Definitions only.
--     fraction_of r    the fraction that r holds
--     ratio_of f       the fraction f as the code holds it
--     Reduced r       it is in lowest terms, and neither part is above TOP
--     pooled o        the answer for one step
--     said o          what an edge has to add
-- Assumes nothing.
use Rattle.std.specs.Prelude.{ℕ, ◌≤◌, ◌<◌, ◌≡◌, Some, None}
use Rattle.std.proofs.Math.Option.{Option, none, some}
use Rattle.whole.specs.Whole.{TOP}
use Rattle.passes.specs.declared.ratio.Ratio.{Ratio}
use Rattle.passes.specs.Characters.{lowest}
use Rattle.shares.specs.Pool.{Fraction}
use Rattle.std.specs.Prelude as std

abbrev pub fraction_of : Ratio → Fraction
fraction_of r = (r.numerator, r.denominator)

abbrev pub ratio_of : Fraction → Ratio
ratio_of f = record { numerator = f.0; denominator = f.1 }

pub record Reduced (r : Ratio) : Type 0 where
  pub numerator : r.numerator ≤ TOP
  pub denominator : r.denominator ≤ TOP
  pub positive : 0 < r.denominator
  pub same : lowest (fraction_of r) ≡ fraction_of r

abbrev pub pooled : Option Fraction → std.Option Ratio
pooled none = None
pooled (some f) = Some (ratio_of f)

abbrev pub said : Option Fraction → std.Option (ℕ × ℕ)
said none = None
said (some f) = Some (f.0, f.1)
