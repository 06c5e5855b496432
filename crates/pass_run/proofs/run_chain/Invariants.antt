-- `run_chain` meets its contract. The invariant is `Open` of `proofs/RunLaws.antt`; the measure is what is left of the list. Assumes nothing.
use Prim.Native.Nat.{◌-◌}
use Rattle.pass_list.specs.Answers.{pass_of}
use Rattle.pass_run.proofs.RunLaws.{Open}
use Rattle.pass_run.proofs.run_chain.Given as goal

abbrev pub invariant-loop-j : goal.invariant-loop-j
invariant-loop-j l = Open (pass_of l.pass) l.list l.n l.i l.chain l.j

abbrev pub decreases-loop-j : goal.decreases-loop-j
decreases-loop-j l = l.n - l.j
