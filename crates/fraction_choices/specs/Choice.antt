-- What the marker at a place leads to, as the code says it: a form and the indices of the edges that it uses. Definitions only.
--     value_or e           the value of an edge as a whole number; 0 where it has none
--     formed f ..         what the form f makes of two edges
--     outcome_of es p m    what the choice m makes of the lattice es, for a marker at place p; nothing where there is none
--     HasValue e          the edge e has a value
--     Valid es m          the choice m may stand over the lattice es: what it uses is there
-- Assumes nothing.
use Rattle.std.specs.Prelude.{◌≡◌, true, List, [], ◌∷◌, ℕ, ◌<◌, length, get_or, Some, None}
use Rattle.std.proofs.Math.Option.{Option, none, some}
use Rattle.whole.specs.Decimal.{decimal}
use Rattle.edge.specs.Edge.{Edge}
use Rattle.lattice.specs.Kept.{no_edge}
use Rattle.numbers.specs.Listed.{whole_value}
use Rattle.numbers.specs.Fractions.{Outcome, made, nothing, percent_edge, fraction_edge, is_numeric}
use Rattle.fraction_choices.specs.declared.decision.Form.{Form}
use Rattle.fraction_choices.specs.declared.decision.Form.TheVariants.{Percent, Fraction, TxtPercent}
use Rattle.fraction_choices.specs.declared.decision.Choice.{Choice}
use Rattle.std.specs.Prelude as std

abbrev pub number_or : Option ℕ → ℕ
number_or none = 0
number_or (some v) = v

abbrev pub value_or : Edge → ℕ
value_or e = number_or (whole_value e)

-- "right%" and "right/left" over all three; the right neighbour's txt and "%" from the marker on
abbrev pub formed : Form → ℕ → ℕ → Edge → ℕ → Edge → Outcome
formed Percent p i l j r = made (percent_edge l.start r.end (decimal (value_or r))) (i ∷ j ∷ [])
formed Fraction p i l j r = made (fraction_edge l (value_or l) r (value_or r)) (i ∷ j ∷ [])
formed TxtPercent p i l j r = made (percent_edge p r.end r.txt) (j ∷ [])

unfoldable pub outcome_of : List Edge → ℕ → std.Option Choice → Outcome
outcome_of es p None = nothing
outcome_of es p (Some c) = formed c.form p c.left (get_or es c.left no_edge) c.right (get_or es c.right no_edge)

abbrev pub HasValue : Edge → Type 0
HasValue e = (v : ℕ) × (whole_value e ≡ some v)

-- two edges with values
pub record Two (es : List Edge) (i j : ℕ) : Type 0 where
  pub left : i < length es
  pub right : j < length es
  pub left_value : HasValue (get_or es i no_edge)
  pub right_value : HasValue (get_or es j no_edge)

-- a numeric edge
pub record One (es : List Edge) (j : ℕ) : Type 0 where
  pub right : j < length es
  pub numeric : is_numeric (get_or es j no_edge) ≡ true

-- two edges with values, the left one's not 0
pub record Ratio (es : List Edge) (i j : ℕ) : Type 0 where
  pub two : Two es i j
  pub not_zero : 0 < value_or (get_or es i no_edge)

abbrev pub Uses : Form → List Edge → ℕ → ℕ → Type 0
Uses Percent es i j = Two es i j
Uses Fraction es i j = Ratio es i j
Uses TxtPercent es i j = One es j

abbrev pub UsesOf : List Edge → std.Option Choice → Type 0
UsesOf es None = Unit {0}
UsesOf es (Some c) = Uses c.form es c.left c.right

pub record Valid (es : List Edge) (m : std.Option Choice) : Type 0 where
  pub uses : UsesOf es m
