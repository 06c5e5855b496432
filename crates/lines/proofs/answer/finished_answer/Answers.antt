-- `lines::answer::finished_answer` meets its contract: a lattice that became too long has the length 0. Assumes nothing.
use Rattle.lines.proofs.AnswerLaws.{left_too_long, left_listing}
use Rattle.lines.proofs.answer.finished_answer.Goals as goal

pub returns-then-lattice-eq0 : goal.returns-then-lattice-eq0
returns-then-lattice-eq0 c = λ u es q. left_too_long q c.if-lattice-eq0.true

pub returns : goal.returns
returns c = λ u es q. left_listing q c.if-lattice-eq0.false
