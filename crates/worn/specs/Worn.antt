-- One character worn off the stone (02, S-10): what the call answers for a line, and what is in the output afterwards. Definitions only.
--     mark            □
--     cut cs          the code points cs cut at the first □: those before it and those behind it; none where there is no □
--     parts cs        the same as characters of the plain table; none where cs is not such a line
--     serves x y c    the value of the line with c between x and y, where that is a numeral not above TOP
--     worn_rows x y    each character that serves, with the value, in the sheet's order; worn_bytes rs: rows as they are written
--     finished rs n   the answer for a line with the rows rs, where the output has n bytes
--     worn line n     the answer for a line
--     line_rows line   the rows of a line; output line s: what is in the output s afterwards
--     Assumes nothing.
use Rattle.std.specs.Prelude.{ℕ, cond, List, [], ◌∷◌, ◌++◌, map, eqb, ltb, length, Result, Ok, Err}
use Rattle.std.proofs.Math.Option.{Option, none, some}
use Rattle.std.proofs.lemmas.List.Edits.{sets}
use Rattle.text.specs.Text.{chars}
use Rattle.text.specs.Line.{line_check}
use Rattle.grammar.specs.Plain.{Char}
use Rattle.numeral.specs.Field.{plain_line}
use Rattle.sheet_rows.specs.Rows.{order, numeral_within, rows_of, rows_bytes}
use Rattle.text.specs.declared.LineRefusal.{LineRefusal}
use Rattle.worn.specs.declared.WornRefusal.{WornRefusal}

-- ---- the line

-- "A transcriber marks it □ (U+25A1)."
abbrev pub mark : ℕ
mark = 0x25A1

-- the same with c before the first part
abbrev pub fronted : ℕ → Option (List ℕ × List ℕ) → Option (List ℕ × List ℕ)
fronted c none = none
fronted c (some p) = some (c ∷ p.0, p.1)

unfoldable pub cut : List ℕ → Option (List ℕ × List ℕ)
cut [] = none
cut (c ∷ cs) = cond (eqb c mark) (some ([], cs)) (fronted c (cut cs))

-- two parts, where both are there
abbrev pub both : Option (List Char) → Option (List Char) → Option (List Char × List Char)
both none q = none
both (some x) none = none
both (some x) (some y) = some (x, y)

abbrev pub plain_parts : Option (List ℕ × List ℕ) → Option (List Char × List Char)
plain_parts none = none
plain_parts (some p) = both (plain_line p.0) (plain_line p.1)

-- "a line without just one □ or with another character outside the table" has none: a second □ is outside the table, too
unfoldable pub parts : List ℕ → Option (List Char × List Char)
parts cs = plain_parts (cut cs)

-- ---- the rows

-- "each of the sixteen characters that makes the line a numeral not above TOP"
abbrev pub serves : List Char → List Char → Char → Option ℕ
serves x y c = numeral_within (x ++ (c ∷ y))

-- "List, in the proof sheet's order, each .. with the value."
unfoldable pub worn_rows : List Char → List Char → List (Char × ℕ)
worn_rows x y = rows_of (serves x y) order

-- "A row has the form of the proof sheet, the character in the numeral's stead."
unfoldable pub worn_bytes : List (Char × ℕ) → List ℕ
worn_bytes rs = rows_bytes (map (λ r. (r.0 ∷ [], r.1)) rs)

-- ---- the answer

-- "with 13 a line for which none of the sixteen serves"
abbrev pub unless_none : List (Char × ℕ) → Result ℕ WornRefusal
unless_none [] = Err WornRefusal.NoneServes
unless_none (r ∷ rs) = Ok (length (worn_bytes (r ∷ rs)))

-- "placed last, after 8"
unfoldable pub finished : List (Char × ℕ) → ℕ → Result ℕ WornRefusal
finished rs room = cond (ltb room (length (worn_bytes rs))) (Err WornRefusal.TooShort) (unless_none rs)

abbrev pub with_parts : Option (List Char × List Char) → ℕ → Result ℕ WornRefusal
with_parts none room = Err WornRefusal.NotOneMark
with_parts (some p) room = finished (worn_rows p.0 p.1) room

-- "It refuses with 12 a line without just one □ or with another character outside the table"
unfoldable pub worn_codes : List ℕ → ℕ → Result ℕ WornRefusal
worn_codes cs room = with_parts (parts cs) room

-- "placed after 3"
abbrev pub checked : Result ℕ LineRefusal → Result ℕ WornRefusal → Result ℕ WornRefusal
checked (Ok n) w = w
checked (Err r) w = Err (WornRefusal.Line r)

unfoldable pub worn : List ℕ → ℕ → Result ℕ WornRefusal
worn line room = checked (line_check line) (worn_codes (chars line) room)

-- ---- the output: the rows at its front, or as it was
abbrev pub parts_rows : Option (List Char × List Char) → List (Char × ℕ)
parts_rows none = []
parts_rows (some p) = worn_rows p.0 p.1

unfoldable pub line_rows : List ℕ → List (Char × ℕ)
line_rows line = parts_rows (parts (chars line))

abbrev pub stored : List (Char × ℕ) → List ℕ → Result ℕ WornRefusal → List ℕ
stored rs s (Ok n) = sets s 0 (worn_bytes rs)
stored rs s (Err r) = s

unfoldable pub output : List ℕ → List ℕ → List ℕ
output line s = stored (line_rows line) s (worn line (length s))
