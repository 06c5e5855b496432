-- `first_stages::bare::all_bare` meets its contract. The loop's invariant: at is the offset of a place, and the characters from there on decide. The measure is what is left of
-- the line. Assumes nothing.
use mathlib.Core.Path.{◌≡◌}
use Prim.Native.Nat.{ℕ, ◌-◌}
use lib.ListN.{length, drop}
use Rattle.text.specs.Text.{chars}
use Rattle.text.proofs.PlaceLaws.{Reached}
use Rattle.characters.specs.Initial.{records_in}
use Rattle.first_stages.specs.Bare.{bare}
use Rattle.first_stages.proofs.bare.all_bare.Given as goal

abbrev pub invariant-loop-at : goal.invariant-loop-at
invariant-loop-at l = ((k : ℕ) × Reached l.line k l.at) × (bare (records_in l.table l.all) (chars (drop l.at l.line)) ≡ bare (records_in l.table l.all) (chars l.line))

abbrev pub decreases-loop-at : goal.decreases-loop-at
decreases-loop-at l = length l.line - l.at
