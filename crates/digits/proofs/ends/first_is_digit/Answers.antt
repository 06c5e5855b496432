-- `digits::ends::first_is_digit` meets its contract: by what stands at the text's start. Assumes nothing.
use mathlib.Core.Path.{sym, ap, ◌∙◌}
use Rattle.digits.specs.TextEnds.{digit_seq, begins_with_digit}
use Rattle.digits.proofs.DigitsLaws.{tested}
use Rattle.digits.proofs.ends.first_is_digit.Goals as goal

pub returns-in-Char : goal.returns-in-Char
unfolding begins_with_digit
returns-in-Char c = tested _ c.is_digit.ensures ∙ ap digit_seq (sym c.in-Char.is ∙ c.seq_at.ensures)

pub returns-in-Ill : goal.returns-in-Ill
unfolding begins_with_digit
returns-in-Ill c = ap digit_seq (sym c.in-Ill.is ∙ c.seq_at.ensures)

pub returns-in-End : goal.returns-in-End
unfolding begins_with_digit
returns-in-End c = ap digit_seq (sym c.in-End.is ∙ c.seq_at.ensures)
