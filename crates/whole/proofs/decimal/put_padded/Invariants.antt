-- `whole::decimal::put_padded` meets its contract. The loop's invariant: the digits from i on are stored, and those of rest are left.
-- The mathematics of a turn is in `proofs/DecimalLaws.antt`. Assumes nothing.
use Rattle.whole.specs.Decimal.{padded}
use Rattle.whole.proofs.DecimalLaws.{StoredFrom}
use Rattle.whole.proofs.decimal.put_padded.Given as goal

abbrev pub invariant-loop-i : goal.invariant-loop-i
invariant-loop-i l = StoredFrom l.initial.out l.out l.at l.i l.rest (padded l.len l.n)
