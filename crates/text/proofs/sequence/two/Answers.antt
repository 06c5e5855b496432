-- `text::sequence::two` meets its contract: the line ends within the sequence, or its trailing byte is there and is tested.
use mathlib.Core.Path.{◌∙◌}
use Rattle.text.proofs.SequenceLaws.{cut_at, two_at}
use Rattle.text.proofs.sequence.two.Goals as goal

pub returns-then-s-at-lt2 : goal.returns-then-s-at-lt2
returns-then-s-at-lt2 c = cut_at 1 _ _ _ _ _ _ c.requires.0 c.if-s-at-lt2.true

pub returns : goal.returns
returns c =
    let a = c.args in
    c.char_if.ensures ∙ two_at a.s.now _ _ a.at _ c.between.ensures c.of_two.ensures c.if-s-at-lt2.false
