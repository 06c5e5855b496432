-- The answers of the call (01, the table of refusals). Definitions only.
--     number r, place r      01's number of a refusal, and the place or offset returned with it
--     of_line r               refusals 2 and 3 of a line
--     Brief                  an answer without the listing's bytes: its length, or a refusal's number and place
--     answer_of r             the code's answer so
--     status_of n p           a status of C's and the number that goes with it
--     refusal_told r, told b  what C is told of a refusal, and of an answer: 0 or the refusal's number; the length, or the refusal's place or offset
--     Assumes nothing.
use Rattle.std.specs.Prelude.{ℕ, Result, Ok, Err}
use Rattle.text.specs.declared.LineRefusal.{LineRefusal}
use Rattle.answers.specs.declared.Refusal.{Refusal}
use Rattle.answers.specs.declared.Refusal.TheVariants.{ShortWork, NotUtf8, OverLong, BadTable, BadContent, BadEdges, AboveTop, TooLong}
use Rattle.answers.specs.declared.CStatus.{CStatus}

abbrev pub number : Refusal → ℕ
number ShortWork = 1
number (NotUtf8 at) = 2
number (OverLong at) = 3
number (BadTable at) = 4
number (BadContent at) = 5
number (BadEdges at) = 6
number (AboveTop p) = 7
number TooLong = 8

abbrev pub place : Refusal → ℕ
place ShortWork = 0
place (NotUtf8 at) = at.0
place (OverLong at) = at.0
place (BadTable at) = at.0
place (BadContent at) = at.0
place (BadEdges at) = at.0
place (AboveTop p) = p.0
place TooLong = 0

abbrev pub of_line : LineRefusal → Refusal
of_line (LineRefusal.IllFormed at) = NotUtf8 at
of_line (LineRefusal.TooLong at) = OverLong at

abbrev pub status_of : ℕ → ℕ → CStatus
status_of n p = record { status = n; at = p }

abbrev pub refusal_told : Refusal → CStatus
refusal_told r = status_of (number r) (place r)

pub data Brief : Type 0 where
  of_length : ℕ → Brief
  refused : ℕ → ℕ → Brief

abbrev pub answer_of : Result ℕ Refusal → Brief
answer_of (Ok n) = of_length n
answer_of (Err r) = refused (number r) (place r)

abbrev pub told : Brief → CStatus
told (of_length n) = status_of 0 n
told (refused n p) = status_of n p
