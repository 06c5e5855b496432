-- What the code says of the edge that a choice makes. Definitions only.
--     percent_of, fraction_of    the edges that the forms Percent and Fraction make
--     add_outcome es m          es with the edge that was made, if one was
--     HoldsChoice n w l es m   w and l hold the edges es of a call over a line of n characters, and the choice m may stand over es
--     Assumes nothing.
use Rattle.std.specs.Prelude.{List, ℕ, get_or, Option}
use Rattle.whole.specs.Decimal.{decimal}
use Rattle.edge.specs.Edge.{Edge}
use Rattle.lattice.specs.declared.Lattice.{Lattice}
use Rattle.lattice.specs.Lattice.{add}
use Rattle.lattice.specs.Kept.{no_edge}
use Rattle.numbers.specs.Fractions.{Outcome, made, nothing, percent_edge, fraction_edge}
use Rattle.fraction_choices.specs.declared.decision.Choice.{Choice}
use Rattle.fractions.specs.NewParts.{HoldsCall}
use Rattle.fraction_choices.specs.Choice.{value_or, Valid}

-- ---- the edges, of the edges i and j of es
abbrev pub percent_of : List Edge → ℕ → ℕ → Edge
percent_of es i j = percent_edge (get_or es i no_edge).start (get_or es j no_edge).end (decimal (value_or (get_or es j no_edge)))

abbrev pub fraction_of : List Edge → ℕ → ℕ → Edge
fraction_of es i j = fraction_edge (get_or es i no_edge) (value_or (get_or es i no_edge)) (get_or es j no_edge) (value_or (get_or es j no_edge))

-- ---- the lattice
pub record HoldsChoice (n : ℕ) (w : List ℕ) (l : Lattice) (es : List Edge) (m : Option Choice) : Type 0 where
  pub has : HoldsCall n w l es
  pub valid : Valid es m

abbrev pub add_outcome : List Edge → Outcome → List Edge
add_outcome es (made e is) = add es e
add_outcome es nothing = es
