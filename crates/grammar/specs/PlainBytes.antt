-- The plain table's bytes in 01's form. Definitions only.
--     plain_bytes      the plain table
--     Assumes nothing.
use Rattle.std.specs.Prelude.{ℕ, List}
use Rattle.table.specs.TableBytes.{table_bytes}
use Rattle.grammar.specs.Plain.{plain}

unfoldable pub plain_bytes : List ℕ
plain_bytes = table_bytes plain
