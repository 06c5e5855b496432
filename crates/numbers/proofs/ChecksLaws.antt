-- Laws of the checks 1 to 6 around what two calls make of what passed them (specs/Call.antt). No contract cites this file. Assumes nothing.
use mathlib.Core.Path.{◌≡◌, refl}
use mathlib.Core.Bool.{Bool, true, false, cond}
use mathlib.Core.List.{List}
use Prim.Native.Nat.{ℕ}
use lib.ListN.{length}
use lib.Dec.{ltb}
use Rattle.text.specs.Text.{chars}
use Rattle.text.specs.Line.{line_check}
use Rattle.table.specs.Table.{Table}
use Rattle.table.specs.Check.{Checked, Fine, Refused, read_table, cause_number}
use Rattle.edge.specs.Layout.{listed}
use Rattle.edge.specs.Check.{check_listing}
use Rattle.numbers.specs.Ready.{work_size}
use Rattle.numbers.specs.Call.{Answer, refused, Stages, after_edges_check, after_table_check, after_line_check, answer_by}
use Rattle.std.specs.Prelude.{Result, Ok, Err}
use Rattle.text.specs.declared.LineRefusal.{LineRefusal}
use Rattle.text.specs.declared.Offset.{Offset}

-- what relates equal refusals, and what the two make of a table, a line and edges that pass, relates the answers
module _ (R : Answer → Answer → Type 0) (equal : (number at : ℕ) → R (refused number at) (refused number at)) (f g : Stages) (line table given : List ℕ) (out : ℕ)
    (ends : (t : Table) (at n : ℕ) → read_table table ≡ Fine t at → check_listing true (length (chars line)) given ≡ Ok n → R (f t (chars line) out (listed given)) (g t (chars line) out (listed given))) where
  both_given : (t : Table) (at : ℕ) → read_table table ≡ Fine t at → (c : Result ℕ Offset) → check_listing true (length (chars line)) given ≡ c
      → R (after_edges_check f t (chars line) out given c) (after_edges_check g t (chars line) out given c)
  both_given t at e (Err p) c = equal _ _
  both_given t at e (Ok n) c = ends t at n e c

  both_table : (c : Checked Table) → read_table table ≡ c → R (after_table_check f (chars line) out given c) (after_table_check g (chars line) out given c)
  both_table (Refused cause at) e = equal (cause_number cause) at
  both_table (Fine t at) e = both_given t at e (check_listing true (length (chars line)) given) refl

  both_line : (c : Result ℕ LineRefusal) → R (after_line_check f line table given out c) (after_line_check g line table given out c)
  both_line (Err r) = equal _ _
  both_line (Ok n) = both_table (read_table table) refl

  pub answers_related : (work : ℕ) → R (answer_by f line table given work out) (answer_by g line table given work out)
  unfolding answer_by
  answers_related work = go (ltb work work_size)
    where
      go : (short : Bool) → R (cond short (refused 1 0) (after_line_check f line table given out (line_check line))) (cond short (refused 1 0) (after_line_check g line table given out (line_check line)))
      go true = equal 1 0
      go false = both_line (line_check line)
