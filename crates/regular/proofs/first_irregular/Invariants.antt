-- `regular::first_irregular` meets its contract. The loop's invariant: none of the records passed is irregular, so that those that are left decide, and each of them is
-- laid out. Assumes nothing.
use Prim.Native.Nat.{◌-◌}
use Rattle.regular.proofs.CheckLaws.{Walk}
use Rattle.regular.proofs.first_irregular.Given as goal

abbrev pub invariant-loop : goal.invariant-loop
invariant-loop l = Walk l.s l.n l.from l.at (l.n - l.counter)
