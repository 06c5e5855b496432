-- `signs::add_signs` meets its contract. The loop's invariant: with the stored edges that are left, the lattice is what it shall be (`Toward`), and they are sound.
-- Assumes nothing.
use mathlib.Core.List.{map}
use Prim.Native.Nat.{◌-◌, ◌≤◌}
use lib.ListN.{drop}
use Rattle.text.specs.Text.{chars}
use Rattle.table.specs.Answers.{table_of}
use Rattle.pass_list.specs.Stored.{stored_list_at}
use Rattle.pass_list.specs.Edges.{edge_of}
use Rattle.pass_edge.specs.Grounded.{AllGrounded}
use Rattle.numbers.specs.Signs.{signs}
use Rattle.lattice.specs.Kept.{END}
use Rattle.signs.proofs.edges.TowardLaws.{Toward}
use Rattle.signs.proofs.StoredEdgeLaws.{rest}
use Rattle.signs.proofs.add_signs.Given as goal

abbrev pub invariant-loop-i : goal.invariant-loop-i
invariant-loop-i l =
    Toward l.initial.work l.initial.grown (signs (table_of l.table l.shape) (chars l.line) (map (edge_of (chars l.line) l.table) (stored_list_at (drop END l.initial.work) 0 l.stored))) l.work l.grown (rest (table_of l.table l.shape) (chars l.line) l.table (drop END l.initial.work) l.stored l.i)
    × AllGrounded (chars l.line) l.table (stored_list_at (drop END l.initial.work) l.i (l.stored - l.i)) × (l.i ≤ l.stored)
