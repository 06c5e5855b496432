-- `grammar::plain_table::plain_table` meets its contract: both lists are computed. Assumes nothing.
use mathlib.Core.Path.{refl}
use Rattle.text.specs.Sequence.{encode}
use Rattle.whole.specs.Decimal.{decimal, decimal_within}
use Rattle.fields.specs.Fields.{bytes_of}
use Rattle.table.specs.TableBytes.{string, in_row, list, map_of, record_bytes, table_bytes}
use Rattle.grammar.specs.Plain.{plain, plain_records, plain_record}
use Rattle.grammar.specs.PlainBytes.{plain_bytes}
use Rattle.grammar.proofs.plain_table.plain_table.Goals as goal

pub returns : goal.returns
unfolding plain_bytes table_bytes record_bytes map_of list in_row string plain plain_records plain_record bytes_of encode decimal decimal_within
returns c =
    record {
      bytes = refl;
      lent = refl;
    }
