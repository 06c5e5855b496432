-- `markers::any::stands_somewhere` meets its contract. The loop's invariant: the text stands at no place before p, so that those from p on decide.
-- Assumes nothing.
use Rattle.text.specs.Text.{chars}
use Rattle.markers.proofs.AnyLaws.{NoneBefore}
use Rattle.markers.proofs.any.stands_somewhere.Given as goal

abbrev pub invariant-loop-p : goal.invariant-loop-p
invariant-loop-p l = NoneBefore (chars l.line) l.places l.marker l.p
