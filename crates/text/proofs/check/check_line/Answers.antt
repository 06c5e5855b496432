-- `text::check::check_line` meets its contract, by where the walk over all characters stopped and how many it passed.
use Rattle.text.proofs.line.LineLaws.{check_ill, check_ok, check_long, line_answer}
use Rattle.text.proofs.check.check_line.Goals as goal

pub returns-then-at-line : goal.returns-then-at-line
returns-then-at-line c = line_answer _ (check_ill _ _ c.walk-w.ensures c.if-at-line.true)

pub returns-then-w-le-MAX_CHARS : goal.returns-then-w-le-MAX_CHARS
returns-then-w-le-MAX_CHARS c = line_answer _ (check_ok _ _ c.walk-w.ensures c.if-at-line.false c.if-w-le-MAX_CHARS.true)

pub returns : goal.returns
returns c = line_answer _ (check_long _ _ c.walk-w.ensures c.if-at-line.false c.if-w-le-MAX_CHARS.false _ c.offset_of.ensures)
