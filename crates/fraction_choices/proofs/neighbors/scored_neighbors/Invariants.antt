-- `fraction_choices::neighbors::scored_neighbors` meets its contract. The loop's invariant: for each place what is kept and the edges from the i-th on have its neighbour
-- (`Table`). Assumes nothing.
use mathlib.Core.List.{List}
use Rattle.edge.specs.Edge.{Edge}
use Rattle.fraction_choices.specs.Around.{HoldsLine}
use Rattle.fraction_choices.proofs.decision.NeighborLaws.{Table}
use Rattle.fraction_choices.proofs.neighbors.scored_neighbors.Given as goal

abbrev pub invariant-loop-i : goal.invariant-loop-i
invariant-loop-i l = (es : List Edge) → HoldsLine l.work l.fn.lattice es → Table l.right es l.at l.i l.tops l.table
