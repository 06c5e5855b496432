-- `first_stages::given::add_all_given` meets its contract. The loop's invariant: with the edges that are left, the lattice is what it shall be (`Adding`). Assumes nothing.
use Prim.Native.Nat.{◌-◌}
use Rattle.first_stages.proofs.given.GivenLaws.{Adding}
use Rattle.first_stages.proofs.given.add_all_given.Given as goal

abbrev pub invariant-loop : goal.invariant-loop
invariant-loop l = Adding l.initial.work l.initial.grown l.given l.work l.grown l.at (l.count - l.counter)
