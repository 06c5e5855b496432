-- What the call of S-9 (02) answers for a line that is refused neither 2 nor 3, by any reading of the grammar. The words are defined in `specs/Weighed.antt` (weigh,
-- line_weights), `specs/Weights.antt` (weights, nines), and in `grammar` (Reading; IsLine, of its demand 3). Assumes nothing.
--     numeral_weights    the weights that are written are those of the reading
--     written_small      none is above TOP, so that each is a u64
--     bytes_2048         an output of 2,048 bytes is never too short
--     within_answer      "The weights are written as u64 .., and the answer is their count": one for each 一 to 九
--     above_answer       "a numeral above TOP is 7 .., and an output too short is 8, after it": whatever the output's length
--     other_answer       "0 for a line that is no numeral", and outside_answer for one with a character outside the table
use Prim.Native.Nat.{ℕ, ◌*◌, ◌≤◌, ◌<◌}
use mathlib.Core.Path.{◌≡◌, refl, sym, ap, ◌∙◌}
use mathlib.Core.List.{List, map}
use native.Mathlib.Omega.{arith}
use lib.ListN.{length, get_or, length-map}
use Rattle.text.specs.Text.{chars}
use Rattle.whole.specs.Whole.{TOP}
use Rattle.grammar.specs.Plain.{Char, code_point}
use Rattle.grammar.specs.Grammar.{Reading, division_value}
use Rattle.grammar.proofs.Demand3.{IsLine}
use Rattle.numeral.specs.Field.{plain_line}
use Rattle.numeral.proofs.FieldLaws.{plain_line_codes}
use Rattle.numeral.proofs.OneNumber.{Accepted, outside, answers}
use Rattle.weights.specs.Weights.{nines, weights}
use Rattle.weights.specs.Weighed.{plain_weights, line_weights, counted, weigh}
use Rattle.weights.proofs.WrongDigit.{one_weight_each}
use Rattle.weights.proofs.LineLaws.{nines_within}
use Rattle.weights.proofs.WeighedLaws.{by_reading, by_field, weight_within}
use Rattle.std.specs.Prelude.{Ok, Err}
use Rattle.numeral.specs.declared.FieldRefusal.TheVariants as FieldRefusal
use Rattle.weights.specs.declared.WeighRefusal.TheVariants as WeighRefusal

module _ (line : List ℕ) (w : List Char) (is : IsLine line w) (short : length (chars line) ≤ 256) (out : List ℕ) where
  pub numeral_weights : (r : Reading w) → line_weights line ≡ weights r.division
  numeral_weights r = ap plain_weights (ap plain_line is.characters ∙ plain_line_codes w) ∙ by_reading w r

  pub written_small : (r : Reading w) → division_value r.division ≤ TOP → (i : ℕ) → get_or (line_weights line) i 0 ≤ TOP
  written_small r h i = rw (numeral_weights r) (omega (arith, weight_within w r i))

  pub bytes_2048 : (r : Reading w) → 8 * length (line_weights line) ≤ 2048
  bytes_2048 r = omega (arith, short, ap length (numeral_weights r), one_weight_each w r, nines_within w, ap length is.characters ∙ length-map w code_point)

  pub within_answer : (r : Reading w) → division_value r.division ≤ TOP → weigh line (length out) ≡ counted (length (nines w)) (length out)
  within_answer r h =
      let v = division_value r.division in
      sym (by_field line out (((answers line w is short).yes v).1 ((r, refl), h)))
      ∙ ap (λ (n : ℕ). counted n (length out)) (ap length (numeral_weights r) ∙ one_weight_each w r)

  pub above_answer : (r : Reading w) → TOP < division_value r.division → weigh line (length out) ≡ Err (WeighRefusal.Field FieldRefusal.AboveTop)
  above_answer r h = sym (by_field line out ((answers line w is short).above.1 (division_value r.division, (r, refl), h)))

  pub other_answer : (Reading w → ⊥) → weigh line (length out) ≡ Ok 0
  other_answer h = sym (by_field line out ((answers line w is short).no.1 h))

pub outside_answer : (line out : List ℕ) → Accepted line → ((w : List Char) → chars line ≡ map code_point w → ⊥) → weigh line (length out) ≡ Ok 0
outside_answer line out a n = sym (by_field line out (outside line a n))
