-- `rows::listing::put_rows` meets its contract. The loop's invariant: the rows so far are put, and with those of the edges that are left they are all. Assumes nothing.
use mathlib.Core.Path.{◌≡◌}
use Prim.Native.Nat.{◌-◌}
use lib.ListN.{length}
use Rattle.rows.proofs.listing.ListingRowsLaws.{Walked}
use Rattle.rows.proofs.listing.put_rows.Given as goal

abbrev pub invariant-loop : goal.invariant-loop
invariant-loop l = Walked l.s l.initial.text l.text (l.count - l.counter) l.from l.at × (length l.text ≡ length l.initial.text)
