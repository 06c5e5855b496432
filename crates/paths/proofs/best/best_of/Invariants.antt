-- `paths::best::best_of` meets its contract. The loop's invariant: what is held and the edges that are left have the best of all (`Held`). Assumes nothing.
use Prim.Native.Nat.{◌-◌}
use Rattle.paths.proofs.BestLaws.{Held}
use Rattle.paths.proofs.best.best_of.Given as goal

abbrev pub invariant-loop : goal.invariant-loop
invariant-loop l = Held l.skip l.q l.s l.first l.count l.at (l.count - l.counter) l.top l.held
