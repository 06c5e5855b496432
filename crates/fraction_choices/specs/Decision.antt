-- The decision at one place, on the numbers that stand for its neighbours (`kept_of` of specs/Around.antt): each definition is that of the same name in
-- `Fractions` of `numbers`, with a choice for what is made. Definitions only.
--     size_of m                    how many characters a marker has
--     choice f i j, no_choice      a choice, and the one that makes nothing
--     option_of v                  the value that the code read
--     WholeValued e               the value of the edge e, if it has one and no decimals, is a whole number up to TOP
--     otherwise_of, both_of, with_values_of, between_of
-- Assumes nothing.
use Rattle.std.specs.Prelude.{◌≡◌, Bool, cond, ◌&&◌, not, List, ℕ, zero, suc, ◌≤◌, get_or, eqb, Some, None}
use Rattle.std.proofs.Math.Option.{Option, none, some}
use Rattle.whole.specs.Whole.{TOP}
use Rattle.edge.specs.Edge.{Edge, Numeric, f64_bits}
use Rattle.lattice.specs.Kept.{no_edge}
use Rattle.numbers.specs.Listed.{whole_value}
use Rattle.numbers.specs.Fractions.{Marker, percentage, connector, no_marker, is_numeric}
use Rattle.fraction_choices.specs.declared.decision.Form.{Form}
use Rattle.fraction_choices.specs.declared.decision.Choice.{Choice}
use Rattle.std.specs.Prelude as std

abbrev pub size_of : Marker → ℕ
size_of (percentage n) = n
size_of (connector n) = n
size_of no_marker = 0

abbrev pub choice : Form → ℕ → ℕ → std.Option Choice
choice f i j = Some (record { form = f; left = i; right = j })

abbrev pub no_choice : std.Option Choice
no_choice = None

abbrev pub option_of : std.Option ℕ → Option ℕ
option_of (Some v) = some v
option_of None = none

abbrev pub WholeValued : Edge → Type 0
WholeValued e = (x : Numeric) (b : ℕ) → e.num ≡ some x → x.decimals ≡ none → x.value ≡ some b → (v : ℕ) × (v ≤ TOP) × (b ≡ f64_bits v)

abbrev pub otherwise_of : Bool → List Edge → ℕ → std.Option Choice
otherwise_of percent es zero = no_choice
otherwise_of percent es (suc j) = cond (percent && is_numeric (get_or es j no_edge)) (choice Form.TxtPercent 0 j) no_choice

abbrev pub both_of : Bool → std.Option Choice → ℕ → ℕ → ℕ → std.Option Choice
both_of percent other i lv j = cond (eqb lv 100) (choice Form.Percent i j) (cond (not percent && not (eqb lv 0)) (choice Form.Fraction i j) other)

abbrev pub with_values_of : Bool → std.Option Choice → ℕ → Option ℕ → ℕ → Option ℕ → std.Option Choice
with_values_of percent other i none j v = other
with_values_of percent other i (some lv) j none = other
with_values_of percent other i (some lv) j (some rv) = both_of percent other i lv j

abbrev pub between_of : Bool → std.Option Choice → List Edge → ℕ → ℕ → std.Option Choice
between_of percent other es zero y = other
between_of percent other es (suc i) zero = other
between_of percent other es (suc i) (suc j) = with_values_of percent other i (whole_value (get_or es i no_edge)) j (whole_value (get_or es j no_edge))
