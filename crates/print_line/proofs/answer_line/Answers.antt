-- `print_line::answer_line` meets its contract. Assumes nothing.
use Rattle.finished.proofs.Readable.{no_edges_bytes}
use Rattle.print_line.proofs.LineRowsLaws.{listing_front, rows_fit}
use Rattle.print_line.proofs.answer_line.Goals as goal

pub put_rows-requires : goal.put_rows-requires
put_rows-requires c = rows_fit _ _ _ _ _ _ _ no_edges_bytes (listing_front _ c.add_numbers.ensures _ c.in-Ok.is).is c.requires
