-- `first_stages::chars::add_chars` meets its contract. The loop's invariant: the characters before place were added, at is the offset of that place, and the work space is as
-- long as before. The measure is how many characters are left. Assumes nothing.
use mathlib.Core.Path.{◌≡◌}
use Prim.Native.Nat.{◌-◌}
use lib.ListN.{length}
use Rattle.text.specs.Text.{chars}
use Rattle.text.proofs.PlaceLaws.{Reached}
use Rattle.characters.specs.Initial.{records_in}
use Rattle.first_stages.specs.CharStage.{Adding}
use Rattle.first_stages.proofs.chars.add_chars.Given as goal

abbrev pub invariant-loop-at : goal.invariant-loop-at
invariant-loop-at l = Adding l.marks l.line l.table (records_in l.table l.all) l.place l.initial.work l.initial.done.lattice l.work l.done × Reached l.line l.place l.at × (length l.work ≡ length l.initial.work)

abbrev pub decreases-loop-at : goal.decreases-loop-at
decreases-loop-at l = length (chars l.line) - l.place
