-- Is this field one number? (02, S-4) Definitions only.
--     plain_char c      the plain table's character with the code point c
--     plain_line cs     the code points cs as characters of the plain table; none where one is outside it
--     answered o       the answer for a line whose value, as a numeral, is o
--     field_of line     the answer for the line, as bytes
--     Assumes nothing.
use Rattle.std.specs.Prelude.{ℕ, cond, List, [], ◌∷◌, leb, eqb, Some, None, Result, Ok, Err}
use Rattle.std.proofs.Math.Option.{Option, none, some}
use Rattle.text.specs.Text.{chars}
use Rattle.text.specs.Line.{line_check}
use Rattle.whole.specs.Whole.{TOP}
use Rattle.grammar.specs.Plain.{Char, code_point, sixteen}
use Rattle.numeral.specs.Numeral.{numeral_of}
use Rattle.std.specs.Prelude as std
use Rattle.numeral.specs.declared.FieldRefusal.{FieldRefusal}
use Rattle.text.specs.declared.LineRefusal.{LineRefusal}

unfoldable pub plain_among : List Char → ℕ → Option Char
plain_among [] c = none
plain_among (k ∷ ks) c = cond (eqb c (code_point k)) (some k) (plain_among ks c)

unfoldable pub plain_char : ℕ → Option Char
plain_char c = plain_among sixteen c

-- the character k and those behind it
abbrev pub behind : Char → Option (List Char) → Option (List Char)
behind k none = none
behind k (some w) = some (k ∷ w)

unfoldable pub plain_line : List ℕ → Option (List Char)
plain_line [] = some []
plain_line (c ∷ cs) = elim (plain_char c) [ some k ↦ behind k (plain_line cs) | none ↦ none ]

-- "It says yes with the value exactly for a numeral whose value is at most TOP, refuses with 7 at place 0 exactly for a numeral whose value is above TOP"
abbrev pub answered : Option ℕ → Result (std.Option ℕ) FieldRefusal
answered none = Ok None
answered (some v) = cond (leb v TOP) (Ok (Some v)) (Err FieldRefusal.AboveTop)

-- "and says no to every other line, the empty one and one with a character outside the table among them."
abbrev pub plain_field : Option (List Char) → Result (std.Option ℕ) FieldRefusal
plain_field none = Ok None
plain_field (some w) = answered (numeral_of w)

-- "The refusals 2 and 3 come first, as in 01."
abbrev pub checked : Result ℕ LineRefusal → Result (std.Option ℕ) FieldRefusal → Result (std.Option ℕ) FieldRefusal
checked (Ok n) f = f
checked (Err r) f = Err (FieldRefusal.Line r)

unfoldable pub field_of : List ℕ → Result (std.Option ℕ) FieldRefusal
field_of line = checked (line_check line) (plain_field (plain_line (chars line)))
