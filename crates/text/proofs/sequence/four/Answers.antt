-- `text::sequence::four` meets its contract: the line ends within the sequence, or its trailing bytes are there and are tested.
use mathlib.Core.Path.{refl, ◌∙◌}
use Rattle.text.proofs.SequenceLaws.{cut_at, four_at}
use Rattle.text.proofs.sequence.four.Goals as goal

pub returns-then-s-at-lt4 : goal.returns-then-s-at-lt4
returns-then-s-at-lt4 c = cut_at 3 _ _ _ _ _ _ c.requires.0 c.if-s-at-lt4.true

pub returns : goal.returns
returns c =
    let a = c.args in
    c.char_if.ensures ∙ four_at a.s.now _ _ a.at _ c.between.ensures refl c.between-2.ensures refl c.between-3.ensures c.of_four.ensures c.if-s-at-lt4.false
