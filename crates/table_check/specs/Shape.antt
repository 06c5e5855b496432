-- The shape of a table: where its items stand (01: "u16 count of records, then four lists in order .. The records come after the lists."). Definitions only.
--     behind c      the offset behind items that were checked; 0 where they are refused
--     shape_of s     the shape of the table s: the four lists one behind the other from offset 2 on, then so many records
--     ShapeIs s r   where the check of s answers a shape, it is this one
--     TableIs s r   the check of s answers the table that s is, by its shape, or the refusal
-- Assumes nothing.
use Rattle.std.specs.Prelude.{◌≡◌, List, ℕ, Result, Ok, Err}
use Rattle.fields.specs.Fields.{le_at}
use Rattle.table.specs.Check.{Checked, Fine, Refused, read_list, read_table}
use Rattle.table.specs.Answers.{table_answer}
use Rattle.table.specs.declared.shape.Shape.{Shape}
use Rattle.table.specs.declared.shape.TableRefusal.{TableRefusal}

abbrev pub behind : {A : Type 0} → Checked A → ℕ
behind (Fine a next) = next
behind (Refused cause at) = 0

abbrev pub list_end : List ℕ → ℕ → ℕ
list_end s at = behind (read_list s at)

unfoldable pub shape_of : List ℕ → Shape
shape_of s = record {
  percentages = 2;
  connectors = list_end s 2;
  plus = list_end s (list_end s 2);
  minus = list_end s (list_end s (list_end s 2));
  count = le_at s 0 2;
  records = list_end s (list_end s (list_end s (list_end s 2)));
}

unfoldable pub ShapeIs : List ℕ → Result Shape TableRefusal → Type 0
ShapeIs s (Ok h) = h ≡ shape_of s
ShapeIs s (Err r) = Unit {0}

pub record TableIs (s : List ℕ) (r : Result Shape TableRefusal) : Type 0 where
  pub table : table_answer s r ≡ read_table s
  pub shape : ShapeIs s r
