-- `shares::pool_edges` meets its contract. The loop's invariant: the sum so far and the edges that are left come to what all come to (`Pooling`).
-- Assumes nothing.
use Rattle.shares.proofs.ListingLaws.{Pooling}
use Rattle.shares.proofs.pool_edges.Given as goal

abbrev pub invariant-loop-i : goal.invariant-loop-i
invariant-loop-i l = Pooling l.s l.count l.sum.numerator l.sum.denominator l.at l.i
