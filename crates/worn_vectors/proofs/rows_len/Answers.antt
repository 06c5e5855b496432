-- `worn_vectors::rows_len` meets its contract: rows have room in the output. Assumes nothing.
use mathlib.Core.Path.{sym, ◌∙◌}
use Rattle.worn.proofs.AnswerLaws.{rows_fit}
use Rattle.worn_vectors.proofs.rows_len.Goals as goal

pub returns-in-Ok : goal.returns-in-Ok
returns-in-Ok c = rows_fit _ _ _ (sym c.worn_character-answer.ensures.answer ∙ c.in-Ok.is)
