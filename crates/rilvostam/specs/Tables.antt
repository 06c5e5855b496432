-- What a function that writes one of the library's tables answers, and what C is told of a table's check. Definitions only.
--     supplied bytes room   the table of these bytes, asked for with an output of `room` bytes: all of them, or refusal 8
--     regular_told a         the answer a of `check_regular`: 0 and NONE, 0 and the offset of a record of none of the four kinds, or the refusal's number and offset
--     Assumes nothing.
use Rattle.std.specs.Prelude.{ℕ, cond, List, ltb, length, Option, Some, None, Result, Ok, Err}
use Rattle.table.specs.Check.{cause_number}
use Rattle.numbers.specs.Call.{Answer, listing, refused}
use Rattle.answers.specs.declared.CStatus.{CStatus}
use Rattle.answers.specs.Answers.{status_of}
use Rattle.answers.specs.Statuses.{NONE}
use Rattle.text.specs.declared.Offset.{Offset}
use Rattle.table.specs.declared.shape.TableRefusal.{TableRefusal}

-- 8: "longer than the output"; `listing` is the answer's case that has bytes
abbrev pub supplied : List ℕ → ℕ → Answer
supplied bytes room = cond (ltb room (length bytes)) (refused 8 0) (listing bytes)

-- "0 with *at = UINT64_MAX where the table is regular, else the offset of its first record that is of none of the four kinds"
abbrev pub regular_told : Result (Option Offset) TableRefusal → CStatus
regular_told (Ok None) = status_of 0 NONE
regular_told (Ok (Some at)) = status_of 0 at.0
regular_told (Err r) = status_of (cause_number r.cause) r.at.0
