-- `text::line::walk` meets its contract. The loop's invariant: the offset is that of the place count.
use Rattle.text.proofs.PlaceLaws.{Reached}
use Rattle.text.proofs.line.walk.Given as goal

abbrev pub invariant-loop-count : goal.invariant-loop-count
invariant-loop-count l = Reached l.s l.count l.at
