-- `markers::find::longest_in` meets its contract. The loop's invariant: the longest of the texts passed and those that are left is the longest of all. Assumes nothing.
use Rattle.table.specs.Layout.{list_at}
use Rattle.markers.specs.Texts.{texts_left}
use Rattle.markers.proofs.MarkLaws.{SoFar}
use Rattle.markers.proofs.find.longest_in.Given as goal

abbrev pub invariant-loop-marker : goal.invariant-loop-marker
invariant-loop-marker l =
    (goal.iterator-loop-marker).can_next l.marker-iterator
    × (goal.iterator-loop-marker).is_finite l.marker-iterator
    × SoFar l.line l.at (list_at l.table l.list) l.best (texts_left l.marker-iterator)
