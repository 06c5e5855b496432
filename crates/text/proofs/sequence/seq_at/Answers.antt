-- `text::sequence::seq_at` meets its contract: the end, or the sequence that the lead byte's row asks for.
use mathlib.Core.Path.{◌∙◌}
use Rattle.text.proofs.SequenceLaws.{seq_end, seq_one, seq_two, seq_three, seq_four, seq_none}
use Rattle.text.proofs.sequence.seq_at.Goals as goal

pub returns-then-s-at : goal.returns-then-s-at
returns-then-s-at c = seq_end _ _ c.if-s-at.true

pub returns-in-1 : goal.returns-in-1
returns-in-1 c = seq_one _ _ c.if-s-at.false _ c.row_of-row.ensures c.widen-lead.ensures c.in-1.is

pub returns-in-2 : goal.returns-in-2
returns-in-2 c = c.two.ensures ∙ seq_two _ _ c.if-s-at.false _ c.row_of-row.ensures c.widen-lead.ensures c.in-2.is

pub returns-in-3 : goal.returns-in-3
returns-in-3 c = c.three.ensures ∙ seq_three _ _ c.if-s-at.false _ c.row_of-row.ensures c.widen-lead.ensures c.in-3.is

pub returns-in-4 : goal.returns-in-4
returns-in-4 c = c.four.ensures ∙ seq_four _ _ c.if-s-at.false _ c.row_of-row.ensures c.widen-lead.ensures c.in-4.is

pub returns-in_default : goal.returns-in_default
returns-in_default c =
    let n = c.in_default.in_default-own.rest in
    seq_none _ _ c.if-s-at.false _ c.row_of-row.ensures n.0.0.0.1 n.0.0.1 n.0.1 n.1
