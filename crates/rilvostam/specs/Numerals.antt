-- What the calls on single numerals tell C (02, S-1, S-4, S-9 and S-10). Definitions only.
--     written_told w     a number written out: 0 and the bytes of its numeral, or the number of 02's refusal and its place
--     field_refusal_told r  a refused field: the number of the refusal, and its offset (2, 3) or place (7)
--     field_told f       a field: 0 and whether it is a number, with its value; or the number of the refusal, and its offset (2, 3) or place (7)
--     weights_told w     the weights of a line: 0 and their count; or the number of the refusal, and its offset (2, 3) or place (7, 8)
--     worn_told w        a worn line: 0 and the bytes of its rows, or the number of the refusal, and its offset (2, 3) or place
--     Assumes nothing.
use Rattle.std.specs.Prelude.{ℕ, Option, Some, None, Result, Ok, Err}
use Rattle.answers.specs.declared.CStatus.{CStatus}
use Rattle.rilvostam.specs.declared.numerals.CField.{CField}
use Rattle.numeral.specs.declared.FieldRefusal.{FieldRefusal}
use Rattle.numeral.specs.declared.FieldRefusal.TheVariants as FieldRefusal
use Rattle.answers.specs.Answers.{of_line, refusal_told}
use Rattle.weights.specs.declared.WeighRefusal.{WeighRefusal}
use Rattle.weights.specs.declared.WeighRefusal.TheVariants as WeighRefusal
use Rattle.worn.specs.declared.WornRefusal.{WornRefusal}
use Rattle.worn.specs.declared.WornRefusal.TheVariants as WornRefusal
use Rattle.writing.specs.declared.WriteRefusal.{WriteRefusal}
use Rattle.writing.specs.declared.WriteRefusal.TheVariants as WriteRefusal

-- "It refuses a number above TOP with 10 at place 0 ..; an output too short is 8."
abbrev pub written_told : Result ℕ WriteRefusal → CStatus
written_told (Ok len) = record { status = 0; at = len }
written_told (Err WriteRefusal.AboveTop) = record { status = 10; at = 0 }
written_told (Err WriteRefusal.TooShort) = record { status = 8; at = 0 }

-- "refuses with 7 at place 0 ..", "The refusals 2 and 3 come first, as in 01."
abbrev pub field_refusal_told : FieldRefusal → CStatus
field_refusal_told FieldRefusal.AboveTop = record { status = 7; at = 0 }
field_refusal_told (FieldRefusal.Line r) = refusal_told (of_line r)

-- "It says yes with the value .., refuses with 7 at place 0 .., and says no ..", "The refusals 2 and 3 come first, as in 01."
abbrev pub field_told : Result (Option ℕ) FieldRefusal → CField
field_told (Ok (Some v)) = record { status = 0; number = 1; at = v }
field_told (Ok None) = record { status = 0; number = 0; at = 0 }
field_told (Err r) = let t = field_refusal_told r in record { status = t.status; number = 0; at = t.at }

-- "the answer is their count ..; a numeral above TOP is 7 at place 0, and an output too short is 8, after it."
abbrev pub weights_told : Result ℕ WeighRefusal → CStatus
weights_told (Ok n) = record { status = 0; at = n }
weights_told (Err (WeighRefusal.Field r)) = field_refusal_told r
weights_told (Err WeighRefusal.TooShort) = record { status = 8; at = 0 }

-- "It refuses with 12 .., placed after 3; and with 13 .., placed last, after 8; both at place 0."
abbrev pub worn_told : Result ℕ WornRefusal → CStatus
worn_told (Ok len) = record { status = 0; at = len }
worn_told (Err (WornRefusal.Line r)) = refusal_told (of_line r)
worn_told (Err WornRefusal.NotOneMark) = record { status = 12; at = 0 }
worn_told (Err WornRefusal.TooShort) = record { status = 8; at = 0 }
worn_told (Err WornRefusal.NoneServes) = record { status = 13; at = 0 }
