use mathlib.Core.Path.{refl, ◌∙◌}
use Rattle.digits.specs.TextEnds.{ends_with_digit}
use Rattle.digits.proofs.DigitsLaws.{tested}
use Rattle.digits.proofs.TextEndsLaws.{NotWhole, other_length, no_char, none_left, too_short, whole_ending, longer_ending}
use Rattle.digits.proofs.ends.last_is_digit.Goals.{in-Char+else-len-k, in_default}
use Rattle.digits.proofs.ends.last_is_digit.Goals as goal

pub loop-k-init : goal.loop-k-init
unfolding ends_with_digit
loop-k-init c = refl

pub returns-then-txt-k : goal.returns-then-txt-k
returns-then-txt-k c = too_short _ c.loop-k.k c.loop-k.invariant c.loop-k-test.true c.if-txt-k.true

pub returns-then-len-k : goal.returns-then-len-k
returns-then-len-k c =
    tested _ c.is_digit.ensures
    ∙ whole_ending _ c.loop-k.k c.loop-k.invariant c.loop-k-test.true c.if-txt-k.false _
    c.seq_at.ensures c.in-Char.is c.if-len-k.true

pub loop-k-preserved : goal.loop-k-preserved
loop-k-preserved c =
    let not_whole : NotWhole c.loop-k.k c.seq_at.result =
    elim c.match-seq_at.branch [
      | in-Char+else-len-k w ↦ rw w.in-Char.is (other_length _ _ _ w.if-len-k.false)
      | in_default w ↦ no_char _ c.seq_at.result w.in_default.not-Char
    ] in longer_ending _ c.loop-k.k c.loop-k.invariant c.loop-k-test.true c.if-txt-k.false _ c.seq_at.ensures not_whole

pub returns : goal.returns
returns c = none_left _ c.loop-k.k c.loop-k.invariant c.loop-k-test.false
