-- What C is told of an answer of the reading calls: a status, 0 or the number of 01's refusal, and the numbers that go with it. Definitions only.
--     NONE                   no edge
--     read_refusal_told r      a refusal: its number, and its place or offset
--     answer_told a           best edge and neighbours: the offset of the edge, or NONE
--     written_told a          the path: the bytes of its listing
--     shown_told a            the text shown: its offset and length, and whether it is a part of the listing (1) or of the line (0)
--     Assumes nothing.
use Rattle.std.specs.Prelude.{ℕ, Option, Some, None, Result, Ok, Err}
use Rattle.answers.specs.declared.CStatus.{CStatus}
use Rattle.answers.specs.declared.reading.CText.{CText}
use Rattle.paths.specs.declared.ReadRefusal.{ReadRefusal}
use Rattle.paths.specs.Reading.{number, place}
use Rattle.answers.specs.Answers.{status_of}
use Rattle.text.specs.declared.Offset.{Offset}
use Rattle.paths.specs.declared.Shown.{Shown}

abbrev pub NONE : ℕ
NONE = 18446744073709551615

abbrev pub found_at : Option Offset → ℕ
found_at (Some o) = o.0
found_at None = NONE

abbrev pub read_refusal_told : ReadRefusal → CStatus
read_refusal_told r = status_of (number r) (place r)

abbrev pub answer_told : Result (Option Offset) ReadRefusal → CStatus
answer_told (Ok f) = status_of 0 (found_at f)
answer_told (Err r) = read_refusal_told r

abbrev pub written_told : Result ℕ ReadRefusal → CStatus
written_told (Ok n) = status_of 0 n
written_told (Err r) = read_refusal_told r

abbrev pub shown_told : Result Shown ReadRefusal → CText
shown_told (Ok (Shown.Listing p)) = record { status = 0; at = p.at.0; len = p.len; in_listing = 1 }
shown_told (Ok (Shown.Line p)) = record { status = 0; at = p.at.0; len = p.len; in_listing = 0 }
shown_told (Err r) = record { status = number r; at = place r; len = 0; in_listing = 0 }
