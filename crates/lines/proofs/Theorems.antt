-- What is promised of the call for many lines. The words are defined in `specs/Lines.antt` and `specs/Pages.antt`.
--     lines_are       no bytes are no line, a newline alone is one empty line, `a` newline `b` are two
--     page_is         a call that is not refused answers the entries of the first lines, as many as fit
--     entry_is        each entry is what `add_numbers` answers for its line, whatever work space suffices
--     any_entry       32,780 bytes hold any entry; page_some: so with such an output a page without bytes is one where there is no byte left
--     all_answered    where all lines are answered, next is the length of the lines
--     calls_row       the pages of calls in a row, each from the next of the one before, are the entries of all lines but those of what is left
--     calls_whole     so that calls which leave nothing give the entries of all lines
-- Assumes nothing.
use Prim.Native.Nat.{ℕ, ◌≤◌}
use mathlib.Core.Path.{◌≡◌, refl, sym, ap, ◌∙◌}
use mathlib.Core.List.{List, [], ◌∷◌, ◌++◌, append_assoc, append-nil}
use lib.ListN.{length, drop}
use borrow.Author.Tests.{le-ltb}
use Rattle.table.specs.Table.{Table}
use Rattle.table.specs.Check.{Fine, read_table}
use Rattle.lattice.specs.Lattice.{most_bytes}
use Rattle.numbers.specs.Call.{answer_by, add_numbers, no_edges}
use Rattle.numbers.specs.Ready.{work_size}
use Rattle.lines.specs.Lines.{Line, line, lines_of}
use Rattle.lines.specs.Pages.{entry_bytes, entry_of, entries_of, fitting, bytes_of_all, taken, page_of, add_numbers_to_lines, page_bytes, called, left_by}
use Rattle.lines.proofs.RowLaws.{page_part, all_taken, entry_short, page_takes, bytes_none}

-- "no bytes are no line, a newline alone is one empty line, `a` newline `b` are two"
pub lines_are : (lines_of [] ≡ []) × (lines_of (10 ∷ []) ≡ line [] 1 ∷ []) × (lines_of (97 ∷ 10 ∷ 98 ∷ []) ≡ line (97 ∷ []) 2 ∷ line (98 ∷ []) 1 ∷ [])
unfolding lines_of
lines_are = (refl, refl, refl)

-- "Status and number are those of `rilvostam_add_numbers` on that line with this table, no given edges and an output of 32,768 bytes"
pub entry_is : (table : List ℕ) (l : Line) (work : ℕ) → work_size ≤ work → (entry_of table l).bytes ≡ entry_bytes (add_numbers l.text table no_edges work most_bytes)
unfolding answer_by
entry_is table l work h = rw (le-ltb work work_size h) refl

-- "An output of 32,780 bytes always holds one entry"
pub any_entry : (table : List ℕ) (l : Line) → length (entry_of table l).bytes ≤ 32780
any_entry table l = entry_short table l

-- "`lines_len` where all were"
pub all_answered : (table lines : List ℕ) → taken (entries_of table lines) ≡ length lines
all_answered table lines = all_taken table lines

-- the table passed its check, and the work space suffices
module _ (table : List ℕ) (t : Table) (at : ℕ) (reads : read_table table ≡ Fine t at) (work : ℕ) (enough : work_size ≤ work) where
  pub page_is : (lines : List ℕ) (out : ℕ) → add_numbers_to_lines lines table work out ≡ page_of (fitting out (entries_of table lines))
  unfolding add_numbers_to_lines
  page_is lines out = rw (le-ltb work work_size enough, reads)

  -- "a page without an entry with an output of 32,780 bytes or more only where there is no line"
  pub page_some : (lines : List ℕ) (out : ℕ) → 32780 ≤ out → page_bytes (add_numbers_to_lines lines table work out) ≡ [] → lines_of lines ≡ []
  page_some lines out h e = page_takes table out h (lines_of lines) (bytes_none table (lines_of lines) out (sym (ap page_bytes (page_is lines out)) ∙ e))

  -- "calling again from `*next`"
  pub calls_row : (ns lines : List ℕ) → bytes_of_all (entries_of table lines) ≡ called lines table work ns ++ bytes_of_all (entries_of table (left_by lines table work ns))
  unfolding called left_by
  calls_row [] lines = refl
  calls_row (n ∷ ns) lines =
      let fs = fitting n (entries_of table lines) in
      rw (page_is lines n)
      (page_part table lines n ∙ ap (λ (x : List ℕ). bytes_of_all fs ++ x) (calls_row ns (drop (taken fs) lines))
      ∙ sym (append_assoc (bytes_of_all fs) (called (drop (taken fs) lines) table work ns) (bytes_of_all (entries_of table (left_by (drop (taken fs) lines) table work ns)))))

  -- "until the end gives, in a row, the entries of all lines"
  pub calls_whole : (ns lines : List ℕ) → left_by lines table work ns ≡ [] → called lines table work ns ≡ bytes_of_all (entries_of table lines)
  unfolding lines_of
  calls_whole ns lines e =
      sym (calls_row ns lines ∙ ap (λ (s : List ℕ). called lines table work ns ++ bytes_of_all (entries_of table s)) e ∙ append-nil (called lines table work ns))
