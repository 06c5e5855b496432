-- `rows::put_part` meets its contract: the part that is lent is the text. Assumes nothing.
use Rattle.rows.proofs.RowsLaws.{put_slice}
use Rattle.rows.proofs.put_part.Goals as goal

pub returns : goal.returns
returns c = let a = c.args in put_slice a.s.now a.t a.by c.put_text.ensures
