-- `rows::columns::put_number` meets its contract: the digits, and a byte behind them. Assumes nothing.
use Rattle.whole.specs.Decimal.{decimal}
use Rattle.rows.proofs.columns.ColumnLaws.{put_ended}
use Rattle.rows.proofs.columns.put_number.Goals as goal

pub returns : goal.returns
returns c = let a = c.args in put_ended (decimal a.n) a.out.now a.at a.by c.put_decimal-end.ensures.written c.put_decimal-end.ensures.next
