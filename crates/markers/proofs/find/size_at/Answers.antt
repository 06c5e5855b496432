-- `markers::find::size_at` meets its contract. Assumes nothing.
use mathlib.Core.Path.{refl}
use Rattle.markers.proofs.MarkLaws.{size_stands, size_none}
use Rattle.markers.proofs.find.size_at.Goals as goal

pub returns-then-stands : goal.returns-then-stands
returns-then-stands c = size_stands _ _ _ refl c.stands.ensures c.if-stands.true c.walk.ensures

pub returns-else-stands : goal.returns-else-stands
returns-else-stands c = size_none _ _ _ refl c.stands.ensures c.if-stands.false
