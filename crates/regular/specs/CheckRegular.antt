-- Whether the bytes of a table are those of a regular one: what `check_regular` answers. Definitions only.
--     of_four_kinds       a record is of one of the four kinds, by its fields: type "digit", whether it has a value, value and base (0 where absent), large power, 零 or 〇
--     irregular_at n s at   the offset of the first of n records, from the offset at of s on, that is of none of the four kinds, where there is one
--     regular_answer s c    the answer for the bytes s, whose check is c
--     check_regular s       the answer for the bytes s
--     Assumes nothing.
use Rattle.std.specs.Prelude.{ℕ, zero, suc, Bool, cond, ◌&&◌, ◌||◌, not, List, leb, eqb, Some, None, Result, Ok, Err}
use Rattle.std.proofs.Math.Option.{Option, none, some}
use Rattle.table.specs.Table.{Table}
use Rattle.table.specs.Layout.{on_field, read_record}
use Rattle.table.specs.Check.{Checked, Fine, read_table}
use Rattle.table.specs.Check as Check
use Rattle.table_check.specs.Shape.{shape_of}
use Rattle.table_grammar.specs.Kinds.{regular_record}
use Rattle.std.specs.Prelude as std
use Rattle.text.specs.declared.Offset.{Offset}
use Rattle.table.specs.declared.shape.TableRefusal.{TableRefusal}

unfoldable pub of_four_kinds : Bool → Bool → ℕ → ℕ → Bool → Bool → Bool
of_four_kinds digit valued value base large gap =
    (digit && valued && leb value 9 && eqb base 1 && not large)
    || (leb 10 value && leb 2 base && leb base value && not large && not gap)
    || (leb 10 value && leb 2 base && large)
    || (not valued && (leb base 1 || large) && not gap)

-- "the offset of its first record that is of none of the four kinds"
unfoldable pub irregular_at : ℕ → List ℕ → ℕ → Option ℕ
irregular_at zero s at = none
irregular_at (suc n) s at = on_field (read_record s at) (λ r next. cond (regular_record r) (irregular_at n s next) (some at)) none

abbrev pub irregular : Option ℕ → std.Option Offset
irregular none = None
irregular (some at) = Some (record { 0 = at })

-- "4 and 5 with the offset as add_numbers would give them"
abbrev pub regular_answer : List ℕ → Checked Table → Result (std.Option Offset) TableRefusal
regular_answer s (Fine t end) = Ok (irregular (irregular_at (shape_of s).count s (shape_of s).records))
regular_answer s (Check.Refused cause at) = Err (Check.refusal_at cause at)

unfoldable pub check_regular : List ℕ → Result (std.Option Offset) TableRefusal
check_regular s = regular_answer s (read_table s)
