-- A table's bytes (01, "Table", "Record"), and which tables are 01's. Definitions only.
--     string t         a string: a u8 length, then its bytes
--     list ts          a list: a u8 count, then the strings
--     map_of r          a record's u8 map: bit 0 rom, 1 value, 2 fraction, 3 base, 4 mult, 5 script, 6 large power
--     record_bytes r    u32 code point, u8 map, type, then only the fields whose bit stands
--     table_bytes t     u16 count of records, the four lists in order, then the records
--     legal_strings, legal_list, legal_records, legal   what may stand in a list, among the records, in a table
--     Assumes nothing.
use Rattle.std.specs.Prelude.{ℕ, ◌+◌, ◌*◌, Bool, true, ◌&&◌, List, [], ◌∷◌, ◌++◌, length, leb, ltb}
use Rattle.fields.specs.Fields.{bytes_of, u16_limit}
use Rattle.fields.specs.Flag.{there, flag, bytes_if}
use Rattle.table.specs.Table.{Text, Record, Table}
use Rattle.table.specs.Check.{all_of, legal_mark, legal_record}
use Rattle.table.specs.Layout.{max_string}

-- ---- bytes
unfoldable pub string : Text → List ℕ
string t = length t ∷ t

-- the bytes of each in a row
unfoldable pub in_row : {A : Type 0} → (A → List ℕ) → List A → List ℕ
in_row f [] = []
in_row f (a ∷ l) = f a ++ in_row f l

unfoldable pub list : List Text → List ℕ
list ts = length ts ∷ in_row string ts

-- numerator, denominator
abbrev pub pair : ℕ × ℕ → List ℕ
pair (n, d) = bytes_of 8 n ++ bytes_of 8 d

unfoldable pub map_of : Record → ℕ
map_of r =
    there r.rom + 2 * there r.value + 4 * there r.fraction + 8 * there r.base + 16 * there r.mult + 32 * there r.script
    + 64 * flag r.large_power

unfoldable pub record_bytes : Record → List ℕ
record_bytes r =
    bytes_of 4 r.code_point ++ (map_of r ∷ []) ++ string r.type ++ bytes_if string r.rom ++ bytes_if (bytes_of 8) r.value
    ++ bytes_if pair r.fraction ++ bytes_if (bytes_of 8) r.base ++ bytes_if (bytes_of 8) r.mult ++ bytes_if string r.script

unfoldable pub table_bytes : Table → List ℕ
table_bytes t =
    bytes_of 2 (length t.records) ++ list t.percentage_markers ++ list t.fraction_connectors ++ list t.plus_signs ++ list t.minus_signs
    ++ in_row record_bytes t.records

-- ---- legal tables: what has bytes of this form, and content without fault 5
-- "a u8 length (0 to 60)"
unfoldable pub short : Text → Bool
short t = leb (length t) max_string

unfoldable pub short_texts : Record → Bool
short_texts r = short r.type && all_of short r.rom && all_of short r.script

unfoldable pub legal_strings : List Text → Bool
legal_strings [] = true
legal_strings (t ∷ ts) = short t && legal_mark t && legal_strings ts

-- its count fits a u8
unfoldable pub legal_list : List Text → Bool
legal_list ts = ltb (length ts) 256 && legal_strings ts

-- code points rise, the first no lower than `least`
unfoldable pub legal_records : ℕ → List Record → Bool
legal_records least [] = true
legal_records least (r ∷ rs) = short_texts r && legal_record least r && legal_records (r.code_point + 1) rs

-- the count of records fits a u16
unfoldable pub legal : Table → Bool
legal t =
    ltb (length t.records) u16_limit && legal_list t.percentage_markers && legal_list t.fraction_connectors && legal_list t.plus_signs
    && legal_list t.minus_signs && legal_records 0 t.records
