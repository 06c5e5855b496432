-- What the loop that adds the new edges starts from. Definitions only.
--     Planned n w l es cs   w and l hold the edges es of a call over n characters, each of the first n choices may stand over es, and the edges that they make are the call's too
--     Assumes nothing.
use Rattle.std.specs.Prelude.{List, ℕ, Option}
use Rattle.edge.specs.Edge.{Edge}
use Rattle.lattice.specs.declared.Lattice.{Lattice}
use Rattle.numbers.specs.CallEdge.{CallEdges}
use Rattle.numbers.specs.Fractions.{new_edges}
use Rattle.fraction_choices.specs.declared.decision.Choice.{Choice}
use Rattle.fractions.specs.NewParts.{HoldsCall}
use Rattle.fractions.specs.Outcomes.{outcomes_of, AllValid}

pub record Planned (n : ℕ) (w : List ℕ) (l : Lattice) (es : List Edge) (cs : List (Option Choice)) : Type 0 where
  pub has : HoldsCall n w l es
  pub valid : AllValid es cs n
  pub new : CallEdges n (new_edges (outcomes_of es cs 0 n))
