-- `markers::any::any_of` meets its contract. The loop's invariant: none of the texts passed stands anywhere, so that those that are left decide, and they
-- are well-formed. Assumes nothing.
use Rattle.text.specs.Text.{chars}
use Rattle.table.specs.Layout.{list_at}
use Rattle.markers.specs.Marks.{Formed}
use Rattle.markers.specs.Texts.{texts_left}
use Rattle.markers.proofs.AnyLaws.{NonePassed}
use Rattle.markers.proofs.any.any_of.Given as goal

abbrev pub invariant-loop-marker : goal.invariant-loop-marker
invariant-loop-marker l =
    (goal.iterator-loop-marker).can_next l.marker-iterator
    × (goal.iterator-loop-marker).is_finite l.marker-iterator
    × NonePassed (chars l.line) l.places (list_at l.table l.list) (texts_left l.marker-iterator)
    × Formed (texts_left l.marker-iterator)
