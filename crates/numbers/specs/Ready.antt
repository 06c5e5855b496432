-- What the checks of line and table leave for the stages of the call. Definitions only.
--     work_size              the least work space, in bytes
--     Ready line table h n   line and table passed their checks: the line has n characters, and h is the table's shape
--     Offsets line offs      the line is well-formed, and offs holds the offset of each of its places, its end included
--     Assumes nothing.
use Rattle.std.specs.Prelude.{◌≡◌, true, List, ℕ, ◌≤◌, length, get_or}
use Rattle.text.specs.Text.{chars, well_formed, offset_of}
use Rattle.text.specs.Line.{max_chars}
use Rattle.table.specs.Check.{Fine, read_table}
use Rattle.table.specs.Answers.{table_of}
use Rattle.table.specs.declared.shape.Shape.{Shape}

-- the least work space
abbrev pub work_size : ℕ
work_size = 65536

pub record Ready (line table : List ℕ) (h : Shape) (n : ℕ) : Type 0 where
  pub formed : well_formed line ≡ true
  pub count : length (chars line) ≡ n
  pub few : n ≤ max_chars
  pub checked : read_table table ≡ Fine (table_of table h) (length table)

pub record Offsets (line offs : List ℕ) : Type 0 where
  pub formed : well_formed line ≡ true
  pub at : (p : ℕ) → p ≤ length (chars line) → get_or offs p 0 ≡ offset_of line p
