-- `run_pass` meets its contract: one loop for all five passes. The invariant is `Going` of `proofs/RunLaws.antt`; the measure is what is left of the list.
-- Assumes nothing.
use Prim.Native.Nat.{◌-◌}
use Rattle.pass_list.specs.Answers.{pass_of}
use Rattle.pass_run.proofs.RunLaws.{Going}
use Rattle.pass_run.proofs.run_pass.Given as goal

abbrev pub invariant-loop-i : goal.invariant-loop-i
invariant-loop-i l = Going (pass_of l.pass) l.initial.list l.n l.list l.i l.k

abbrev pub decreases-loop-i : goal.decreases-loop-i
decreases-loop-i l = l.n - l.i
