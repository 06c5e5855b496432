-- `lines::next_line::line_at` meets its contract. The loop's invariant: no newline was skipped or passed, so that the lines from the offset on are those from here on with the bytes between
-- before the first. Assumes nothing.
use Rattle.lines.proofs.LineLaws.{Walking}
use Rattle.lines.proofs.next_line.line_at.Given as goal

abbrev pub invariant-loop-i : goal.invariant-loop-i
invariant-loop-i l = Walking l.lines l.at l.i
