-- `grammar::formal_table::formal_table` meets its contract: both lists are computed. Assumes nothing.
use mathlib.Core.Path.{refl}
use Rattle.text.specs.Sequence.{encode}
use Rattle.whole.specs.Decimal.{decimal, decimal_within}
use Rattle.fields.specs.Fields.{bytes_of}
use Rattle.table.specs.TableBytes.{string, in_row, list, map_of, record_bytes, table_bytes}
use Rattle.grammar.specs.Plain.{plain, plain_record}
use Rattle.grammar.specs.OtherCharacters.{record_of, table_of}
use Rattle.grammar.specs.Formal.{formal, formal_bytes}
use Rattle.grammar.proofs.formal_table.formal_table.Goals as goal

pub returns : goal.returns
unfolding formal_bytes table_bytes record_bytes map_of list in_row string formal table_of record_of plain plain_record bytes_of encode decimal decimal_within
returns c =
    record {
      bytes = refl;
      lent = refl;
    }
