-- `rows::columns::put_text` meets its contract: the text, and a byte behind it. Assumes nothing.
use mathlib.Core.Path.{refl}
use Rattle.rows.proofs.columns.ColumnLaws.{put_ended}
use Rattle.rows.proofs.columns.put_text.Goals as goal

pub returns : goal.returns
returns c = let a = c.args in put_ended a.t.now a.out.now a.at a.by c.copy_in.ensures refl
