-- `pass_edge::places::place_offsets` meets its contract. The loop's invariant: the walk is at place count, and the offsets of the places before it are filled in.
-- The measure is what is left of the line's characters. Assumes nothing.
use mathlib.Core.Path.{◌≡◌}
use Prim.Native.Nat.{◌-◌}
use lib.ListN.{length}
use Rattle.text.specs.Text.{chars}
use Rattle.text.proofs.PlaceLaws.{Reached}
use Rattle.pass_edge.proofs.places.PlacesLaws.{Filled}
use Rattle.pass_edge.proofs.places.place_offsets.Given as goal

abbrev pub invariant-loop-at : goal.invariant-loop-at
invariant-loop-at l = Reached l.line l.count l.at × Filled l.line l.offs l.count × (length l.offs ≡ 257)

abbrev pub decreases-loop-at : goal.decreases-loop-at
decreases-loop-at l = length (chars l.line) - l.count
