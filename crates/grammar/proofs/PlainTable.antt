-- The plain table as bytes is the plain table as records: the table that 01's layout reads from `plain_bytes` is `plain`.
use mathlib.Core.Path.{◌≡◌, refl}
use lib.ListN.{length}
use Rattle.text.specs.Bytes.{same}
use Rattle.text.specs.Sequence.{seq, encode}
use Rattle.text.specs.Text.{decode, left}
use Rattle.whole.specs.Decimal.{decimal, decimal_within}
use Rattle.fields.specs.Fields.{le, le_at, bytes_of}
use Rattle.fields.specs.Part.{part}
use Rattle.table.specs.Layout.{number, text_of, text, fraction, optional, read_numbers, read_fields, read_record}
use Rattle.table.specs.Check.{Fine, item, all_of, legal_mark, legal_digit, legal_code_point, legal_texts, legal_numbers, digit_rule, legal_record, read_texts, read_list, read_records, read_table}
use Rattle.table.specs.TableBytes.{string, in_row, list, map_of, record_bytes, table_bytes}
use Rattle.grammar.specs.Plain.{plain, plain_records, plain_record}
use Rattle.grammar.specs.PlainBytes.{plain_bytes}

pub plain_table : read_table plain_bytes ≡ Fine plain (length plain_bytes)
unfolding plain_bytes table_bytes record_bytes map_of list in_row string plain plain_records plain_record bytes_of encode decimal decimal_within read_table read_records read_list read_texts legal_record digit_rule legal_numbers legal_texts legal_code_point legal_digit legal_mark all_of item read_record read_fields read_numbers optional fraction text text_of number le le_at part left decode seq same
plain_table = refl
