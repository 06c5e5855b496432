-- `digits::compare_from_third` meets its contract. The loop's invariant: the n starts passed and those of the rest that are not above c are all that are
-- not above c. As the table rises by ten or more, the first start above c ends the count, and only
-- the run of the last start not above c can hold c. Assumes nothing.
use Rattle.digits.proofs.DigitsLaws.{Passed}
use Rattle.digits.proofs.compare_from_third.Given as goal

abbrev pub invariant-loop-n : goal.invariant-loop-n
invariant-loop-n l = Passed l.c l.n
