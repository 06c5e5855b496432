use mathlib.Core.Path.{ap, ◌∙◌}
use native.Mathlib.Omega.{arith}
use lib.ListN.{length}
use Rattle.grammar.proofs.PlainText.{utf8_length}
use Rattle.weights.proofs.UnitLaws.{counted_one}
use Rattle.weights.proofs.LineLaws.{split_start, split_right, all_counted}
use Rattle.weights.proofs.count_digits.Goals as goal

pub loop-place-init : goal.loop-place-init
loop-place-init c = (omega arith, λ w e. split_start w)

pub loop-place-preserved : goal.loop-place-preserved
loop-place-preserved c =
    let (few, split) = c.loop-place.invariant in
    let (counts, one) = counted_one c.weighed.ensures c.from-n.ensures in (
      omega (arith, few, one),
      λ w e. split_right w e (split w e) (omega (arith, c.loop-place-test.true, ap length e ∙ utf8_length w)) c.glyph_at.ensures counts,
    )

pub returns : goal.returns
returns c = λ w e. all_counted w (c.loop-place.invariant.1 w e) (omega (arith, c.loop-place-test.false, ap length e ∙ utf8_length w))
