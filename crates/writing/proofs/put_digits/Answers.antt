-- `writing::put_digits` meets its contract: four digits, one before the other. Assumes nothing.
use mathlib.Core.Path.{refl}
use mathlib.Core.List.{[], ◌∷◌}
use native.Mathlib.Omega.{arith}
use Rattle.grammar.specs.Plain.{ten, 十, 百, 千}
use Rattle.writing.proofs.CodeLaws.{group_digits}
use Rattle.writing.proofs.put_digits.Goals as goal

pub put_digit-a-requires : goal.put_digit-a-requires
put_digit-a-requires c = (omega arith, omega arith, c.requires.2, omega arith, ([], refl))

pub put_digit-b-requires : goal.put_digit-b-requires
put_digit-b-requires c = (omega arith, omega arith, c.put_digit-a.ensures.begins.2, omega arith, (ten 十 ∷ [], refl))

pub put_digit-c-requires : goal.put_digit-c-requires
put_digit-c-requires c = (omega arith, omega arith, c.put_digit-b.ensures.begins.2, omega arith, (ten 百 ∷ [], refl))

pub put_digit-requires : goal.put_digit-requires
put_digit-requires c = (omega arith, omega arith, c.put_digit-c.ensures.begins.2, omega arith, (ten 千 ∷ [], refl))

pub returns : goal.returns
returns c =
    record {
      begins = (omega arith, omega arith, c.put_digit.ensures.begins.2);
      stored = group_digits c.args.g (c.put_digit-a.ensures.stored [] refl) (c.put_digit-b.ensures.stored (ten 十 ∷ []) refl)
          (c.put_digit-c.ensures.stored (ten 百 ∷ []) refl) (c.put_digit.ensures.stored (ten 千 ∷ []) refl);
    }
