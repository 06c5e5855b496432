-- The call for many lines, `add_numbers_to_lines`: an entry for each line, a page of them, the refusals. Definitions only.
--     answer_for table w      what `add_numbers` answers for the line w with this table, no given edges and an output that holds any listing
--     entry_bytes a           the entry of an answer
--     Entry                  an entry: its bytes, and how many bytes its line takes with its newline
--     entries_of table s      the entries of the lines of s
--     fitting n es           the first of the entries es, as many as n bytes hold
--     bytes_of_all es, taken es    their bytes in a row, and how many bytes their lines take
--     Answer                 a page and the offset behind the last line answered, or a refusal with its offset
--     add_numbers_to_lines ..   the answer for lines, a table, the lengths of work space and output
--     out_after out a         what the output holds after the answer a, where it held out before
--     called .., left_by ..   the pages of calls with outputs of these lengths, each with the lines that the one before left; the bytes that are left after them
--     Assumes nothing.
use Rattle.std.specs.Prelude.{ℕ, ◌+◌, ◌-◌, cond, List, [], ◌∷◌, ◌++◌, map, ltb, leb, length, drop}
use Rattle.std.proofs.lemmas.List.Edits.{sets}
use Rattle.fields.specs.Fields.{bytes_of}
use Rattle.table.specs.Table.{Table}
use Rattle.table.specs.Check.{Checked, Fine, Refused, read_table, cause_number}
use Rattle.lattice.specs.Lattice.{most_bytes}
use Rattle.numbers.specs.Call as numbers
use Rattle.numbers.specs.Ready.{work_size}
use Rattle.answers.specs.declared.CStatus.{CStatus}
use Rattle.answers.specs.Answers.{told}
use Rattle.call.specs.Answers.{brief}
use Rattle.lines.specs.Lines.{Line, lines_of}

-- ---- entries

-- "on that line with this table, no given edges and an output of 32,768 bytes"
abbrev pub answer_for : List ℕ → List ℕ → numbers.Answer
answer_for table w = numbers.add_numbers w table numbers.no_edges work_size most_bytes

-- "where the status is 0, so many bytes of listing"
abbrev pub listing_of : numbers.Answer → List ℕ
listing_of (numbers.listing bytes) = bytes
listing_of (numbers.refused number at) = []

-- "u32 status, u64 place, offset or length"
abbrev pub status_bytes : CStatus → List ℕ
status_bytes t = bytes_of 4 t.status ++ bytes_of 8 t.at

unfoldable pub entry_bytes : numbers.Answer → List ℕ
entry_bytes a = status_bytes (told (brief a)) ++ listing_of a

pub record Entry : Type 0 where
  pub bytes : List ℕ
  pub takes : ℕ

abbrev pub entry_of : List ℕ → Line → Entry
entry_of table l = record { bytes = entry_bytes (answer_for table l.text); takes = l.size }

-- "out holds an entry for each line"
abbrev pub entries_of : List ℕ → List ℕ → List Entry
entries_of table s = map (entry_of table) (lines_of s)

-- ---- pages

-- "as many whole entries as fit, and none if the first does not"
unfoldable pub fitting : ℕ → List Entry → List Entry
fitting n [] = []
fitting n (e ∷ es) = cond (leb (length e.bytes) n) (e ∷ fitting (n - length e.bytes) es) []

abbrev pub bytes_of_all : List Entry → List ℕ
bytes_of_all [] = []
bytes_of_all (e ∷ es) = e.bytes ++ bytes_of_all es

abbrev pub taken : List Entry → ℕ
taken [] = 0
taken (e ∷ es) = e.takes + taken es

pub data Answer : Type 0 where
  page : List ℕ → ℕ → Answer
  refused : ℕ → ℕ → Answer

-- "the offset behind the last line answered, its newline included"
abbrev pub page_of : List Entry → Answer
page_of es = page (bytes_of_all es) (taken es)

-- "4 or 5 with the table's offset"
abbrev pub after_table : List ℕ → List ℕ → ℕ → Checked Table → Answer
after_table lines table out (Refused cause at) = refused (cause_number cause) at
after_table lines table out (Fine t at) = page_of (fitting out (entries_of table lines))

-- "The whole is refused 1, then 4 or 5"
unfoldable pub add_numbers_to_lines : List ℕ → List ℕ → ℕ → ℕ → Answer
add_numbers_to_lines lines table work out = cond (ltb work work_size) (refused 1 0) (after_table lines table out (read_table table))

-- a refused call leaves the output as it was; behind a page it is so too
abbrev pub out_after : List ℕ → Answer → List ℕ
out_after out (page bytes next) = sets out 0 bytes
out_after out (refused number at) = out

-- ---- "calling again from `*next` until the end"; a refused call has no page, and another would be refused too
abbrev pub page_bytes : Answer → List ℕ
page_bytes (page bytes next) = bytes
page_bytes (refused number at) = []

abbrev pub next_of : Answer → ℕ
next_of (page bytes next) = next
next_of (refused number at) = 0

unfoldable pub called : List ℕ → List ℕ → ℕ → List ℕ → List ℕ
called lines table work [] = []
called lines table work (n ∷ ns) = let a = add_numbers_to_lines lines table work n in page_bytes a ++ called (drop (next_of a) lines) table work ns

unfoldable pub left_by : List ℕ → List ℕ → ℕ → List ℕ → List ℕ
left_by lines table work [] = lines
left_by lines table work (n ∷ ns) = left_by (drop (next_of (add_numbers_to_lines lines table work n)) lines) table work ns
