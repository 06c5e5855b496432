-- `print_line::read::read_more` meets its contract: the bytes that were there are as they were, so the line ends where the look behind them says. Assumes nothing.
use native.Mathlib.Omega.{arith}
use Rattle.print_line.proofs.read.LineLaws.{step_ends, step_goes}
use Rattle.print_line.proofs.read.read_more.Goals as goal

pub returns-then-end-to : goal.returns-then-end-to
returns-then-end-to g c = step_ends _ (rw c.read_behind.ensures.kept c.requires.1) (omega arith) c.in_ok-more.ensures.within c.end_within-end.ensures.0 c.if-end-to.true

pub returns : goal.returns
returns g c = (
  omega arith,
  c.in_ok-more.ensures.within,
  step_goes _ (rw c.read_behind.ensures.kept c.requires.1) (omega arith) c.in_ok-more.ensures.within c.end_within-end.ensures.0 c.if-end-to.false,
)
