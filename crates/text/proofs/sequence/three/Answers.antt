-- `text::sequence::three` meets its contract: the line ends within the sequence, or its trailing bytes are there and are tested.
use mathlib.Core.Path.{refl, ◌∙◌}
use Rattle.text.proofs.SequenceLaws.{cut_at, three_at}
use Rattle.text.proofs.sequence.three.Goals as goal

pub returns-then-s-at-lt3 : goal.returns-then-s-at-lt3
returns-then-s-at-lt3 c = cut_at 2 _ _ _ _ _ _ c.requires.0 c.if-s-at-lt3.true

pub returns : goal.returns
returns c =
    let a = c.args in
    c.char_if.ensures ∙ three_at a.s.now _ _ a.at _ c.between.ensures refl c.between-2.ensures c.of_three.ensures c.if-s-at-lt3.false
