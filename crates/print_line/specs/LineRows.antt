-- What the program prints for a line (01: "A program reads one line .., with the plain table and no given edges. It prints start, end, type, txt,
-- and 1, 0 or - .., one edge a row; or "refused", number, place"). Definitions only.
--     plain_answer line   the call's answer with the plain table, no given edges and the program's work space and output
--     Assumes nothing.
use Rattle.std.specs.Prelude.{List, ℕ}
use Rattle.grammar.specs.PlainBytes.{plain_bytes}
use Rattle.numbers.specs.Call.{Answer, add_numbers, no_edges}
use Rattle.numbers.specs.Ready.{work_size}
use Rattle.lattice.specs.Lattice.{most_bytes}

abbrev pub plain_answer : List ℕ → Answer
plain_answer line = add_numbers line plain_bytes no_edges work_size most_bytes
