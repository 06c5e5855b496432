-- `writing::put_number` meets its contract: 零 for 0; otherwise four groups, one before the other. Assumes nothing.
use mathlib.Core.Path.{refl}
use mathlib.Core.List.{[], ◌∷◌}
use native.Mathlib.Omega.{arith}
use Rattle.grammar.specs.Plain.{digit, large, 零, 万, 億, 兆}
use Rattle.writing.proofs.CodeLaws.{number_none, number_groups}
use Rattle.writing.proofs.put_number.Goals as goal

pub put-requires : goal.put-requires
put-requires c = (omega arith, omega arith, c.requires, (digit 零 ∷ [], refl))

pub returns-then-n-eq0 : goal.returns-then-n-eq0
returns-then-n-eq0 c =
    record {
      begins = (c.put.ensures.begins.0, c.put.ensures.begins.2);
      stored = number_none c.args.n c.if-n-eq0.true (c.put.ensures.stored (digit 零 ∷ []) refl);
    }

pub put_group-a-requires : goal.put_group-a-requires
put_group-a-requires c = (omega arith, omega arith, c.requires, ([], refl))

pub put_group-b-requires : goal.put_group-b-requires
put_group-b-requires c = (omega arith, omega arith, c.put_group-a.ensures.begins.2, (large 万 ∷ [], refl))

pub put_group-c-requires : goal.put_group-c-requires
put_group-c-requires c = (omega arith, omega arith, c.put_group-b.ensures.begins.2, (large 億 ∷ [], refl))

pub put_group-requires : goal.put_group-requires
put_group-requires c = (omega arith, omega arith, c.put_group-c.ensures.begins.2, (large 兆 ∷ [], refl))

pub returns : goal.returns
returns c =
    record {
      begins = (omega arith, c.put_group.ensures.begins.2);
      stored = number_groups c.args.n (λ e. omega (arith, c.if-n-eq0.false))
          (c.put_group-a.ensures.stored [] refl) (c.put_group-b.ensures.stored (large 万 ∷ []) refl)
          (c.put_group-c.ensures.stored (large 億 ∷ []) refl) (c.put_group.ensures.stored (large 兆 ∷ []) refl);
    }
