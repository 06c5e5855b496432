-- `edge_check::check_listing` meets its contract. The loop's invariant: the offset is within the slice, and checking the edges that are left from there
-- gives the answer for the whole listing. Assumes nothing.
use Rattle.edge.specs.Check.{check_edges, check_listing}
use lib.ListN.{length}
use Prim.Native.Nat.{◌≤◌, ◌-◌}
use mathlib.Core.Path.{◌≡◌}
use Rattle.edge_check.proofs.check_listing.Given as goal

abbrev pub invariant-loop : goal.invariant-loop
invariant-loop l = (l.at ≤ length l.s) × (check_edges l.given l.chars l.s (l.count - l.counter) l.at ≡ check_listing l.given l.chars l.s)
