-- The table of characters as a value (01, "Table", "Record"): four lists of strings and the records. Definitions only.
--     Text        a string: its UTF-8 bytes
--     Record      what the table says of one character; a field that is absent is none
--     Table       the four lists in 01's order, then the records
--     find rs c   the record of the code point c, where there is one
--     is_none o    there is no record
--     Assumes nothing.
use Rattle.std.specs.Prelude.{ℕ, Bool, true, false, cond, List, [], ◌∷◌, eqb}
use Rattle.std.proofs.Math.Option.{Option, none, some}

abbrev pub Text : Type 0
Text = List ℕ

pub record Record : Type 0 where
  pub code_point : ℕ
  pub type : Text
  pub rom : Option Text
  pub value : Option ℕ
  -- numerator and denominator, as they stand in the table
  pub fraction : Option (ℕ × ℕ)
  pub base : Option ℕ
  pub mult : Option ℕ
  pub script : Option Text
  pub large_power : Bool

pub record Table : Type 0 where
  pub percentage_markers : List Text
  pub fraction_connectors : List Text
  pub plus_signs : List Text
  pub minus_signs : List Text
  pub records : List Record

unfoldable pub find : List Record → ℕ → Option Record
find [] c = none
find (r ∷ rs) c = cond (eqb r.code_point c) (some r) (find rs c)

abbrev pub is_none : Option Record → Bool
is_none none = true
is_none (some r) = false
