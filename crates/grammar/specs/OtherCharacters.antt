-- The plain table's records under other characters (02, S-11). `code` gives the character for each of the sixteen. Definitions only.
--     code_of code n       the character for the plain character n; any other code point is itself
--     record_of code c     the plain record of c, as one of its other character
--     table_of code cs     the records of the characters cs in this order; the markers, connector and signs of the plain table
--     Assumes nothing.
use Rattle.std.specs.Prelude.{ℕ, cond, List, [], ◌∷◌, map, eqb}
use Rattle.table.specs.Table.{Record, Table}
use Rattle.passes.specs.Renaming.{renamed}
use Rattle.grammar.specs.Plain.{Char, code_point, plain_record, sixteen, plain}

module _ (code : Char → ℕ) where
  abbrev pub code_among : List Char → ℕ → ℕ
  code_among [] n = n
  code_among (c ∷ cs) n = cond (eqb (code_point c) n) (code c) (code_among cs n)

  unfoldable pub code_of : ℕ → ℕ
  code_of n = code_among sixteen n

  unfoldable pub record_of : Char → Record
  record_of c = renamed (code c) (plain_record c)

  -- "the markers, connector and signs as they were"
  unfoldable pub table_of : List Char → Table
  table_of cs = record {
    percentage_markers = plain.percentage_markers;
    fraction_connectors = plain.fraction_connectors;
    plus_signs = plain.plus_signs;
    minus_signs = plain.minus_signs;
    records = map record_of cs;
  }
