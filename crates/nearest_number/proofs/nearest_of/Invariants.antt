-- `nearest_number::nearest_of` meets its contract. The loop's invariant: what is held and the edges that are left have the nearest number of all (`Walk`).
-- Assumes nothing.
use Prim.Native.Nat.{◌-◌}
use Rattle.nearest_number.proofs.NearestLaws.{Walk}
use Rattle.nearest_number.proofs.nearest_of.Given as goal

abbrev pub invariant-loop : goal.invariant-loop
invariant-loop l = Walk l.place.0 l.s l.count l.at (l.count - l.counter) l.held
