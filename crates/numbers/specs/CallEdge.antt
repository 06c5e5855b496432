-- Edges as the call has them in its lattice. Definitions only.
--     Legals n es       each edge of es may be listed over a line of n characters
--     Short e x         the texts of e, with numeric data x, are as short as table and line make them
--     CallEdge n e      e may be listed over a line of n characters; if it is numeric, it is short, and its value, if it has no decimals, is a whole number up to TOP
--     CallEdges n es    each edge of es is such an edge
--     Assumes nothing.
use Rattle.std.specs.Prelude.{◌≡◌, false, List, ℕ, ◌*◌, ◌≤◌, length}
use Rattle.std.proofs.Math.Option.{none, some}
use Rattle.whole.specs.Whole.{TOP}
use Rattle.edge.specs.Edge.{Text, Edge, Numeric, f64_bits}
use Rattle.edge.specs.Legal.{Legal}
use Rattle.pass_list.specs.StoredEdge.{Every}
use Rattle.table.specs.Layout.{max_string}
use Rattle.text.specs.Line.{max_chars}

abbrev pub Legals : ℕ → List Edge → Type 0
Legals n = Every (Legal false n)

pub record Short (e : Edge) (x : Numeric) : Type 0 where
  pub type : length e.type ≤ max_string
  pub txt : length e.txt ≤ max_chars
  pub orig : length x.orig ≤ 4 * max_chars
  pub script : (t : Text) → x.script ≡ some t → length t ≤ max_string
  pub value_s : (t : Text) → x.value_s ≡ some t → length t ≤ max_chars

pub record CallEdge (n : ℕ) (e : Edge) : Type 0 where
  pub legal : Legal false n e
  pub short : (x : Numeric) → e.num ≡ some x → Short e x
  pub value : (x : Numeric) (b : ℕ) → e.num ≡ some x → x.decimals ≡ none → x.value ≡ some b → (v : ℕ) × (v ≤ TOP) × (b ≡ f64_bits v)

abbrev pub CallEdges : ℕ → List Edge → Type 0
CallEdges n = Every (CallEdge n)
