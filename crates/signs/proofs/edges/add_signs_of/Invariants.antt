-- `signs::edges::add_signs_of` meets its contract. The loop's invariant: with the signs that are left, the lattice is what it shall be (`Toward`), and they are
-- well-formed. Assumes nothing.
use Rattle.text.specs.Text.{chars}
use Rattle.table.specs.Layout.{list_at}
use Rattle.pass_list.specs.StoredEdge.{StoredEdge, EdgeIs}
use Rattle.pass_list.specs.Edges.{edge_of}
use Rattle.numbers.specs.Signs.{signed}
use Rattle.markers.specs.Marks.{Formed}
use Rattle.markers.specs.Texts.{texts_left}
use Rattle.signs.proofs.edges.TowardLaws.{Toward}
use Rattle.signs.proofs.edges.add_signs_of.Given as goal

abbrev pub invariant-loop-text : goal.invariant-loop-text
invariant-loop-text l =
    (goal.iterator-loop-text).can_next l.text-iterator
    × (goal.iterator-loop-text).is_finite l.text-iterator
    × ((i : StoredEdge) → EdgeIs l.edge i
    → Toward l.initial.work l.initial.grown (signed (chars l.line) l.sign (edge_of (chars l.line) l.table i) (list_at l.table l.fn.list)) l.work l.grown (signed (chars l.line) l.sign (edge_of (chars l.line) l.table i) (texts_left l.text-iterator)))
    × Formed (texts_left l.text-iterator)
