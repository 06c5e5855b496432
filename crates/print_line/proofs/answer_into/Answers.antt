-- `print_line::answer_into` is safe: the line that was read is within the buffer.
use mathlib.Core.Path.{sym}
use lib.Seq.{length-take-le}
use Rattle.print_line.proofs.read.LineLaws.{line_inside}
use Rattle.print_line.proofs.answer_into.Goals as goal

pub slice_bounds-print_rows-end : goal.slice_bounds-print_rows-end
slice_bounds-print_rows-end g c = line_inside _ _ c.in_ok-got.ensures c.in-Line.is

pub slice_bounds-print_rows-end-in-Line : goal.slice_bounds-print_rows-end-in-Line
slice_bounds-print_rows-end-in-Line g c = sym (length-take-le _ _ (line_inside _ _ c.in_ok-got.ensures c.in-Line.is))
