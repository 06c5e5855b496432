-- `is_power_of_10` meets its contract. The loop's invariant: what is left of n, divided further, decides. The measure is what is left of n. Assumes nothing.
use Rattle.pass_rules.proofs.counted.PowerLaws.{Dividing}
use Rattle.pass_rules.proofs.counted.is_power_of_10.Given as goal

abbrev pub invariant-loop-n : goal.invariant-loop-n
invariant-loop-n l = Dividing l.n-2 l.n

abbrev pub decreases-loop-n : goal.decreases-loop-n
decreases-loop-n l = l.n
