-- What the stages of the call leave up to the five passes. Definitions only.
--     CallDone d line t h given u m k  d: the call has decimals. The lattice m after the passes, and the list after G4 of k stored edges
--     CallPassed d line t h given u r  the passes answered r: refusal 7's place, or the lattice after them with the list after G4
--     Assumes nothing.
use Rattle.std.specs.Prelude.{◌≡◌, Bool, List, map, ℕ, ◌≤◌, length, Result, Ok, Err}
use Rattle.std.proofs.Math.Option.{none, some}
use Rattle.text.specs.Text.{chars}
use Rattle.text.specs.Line.{max_chars}
use Rattle.table.specs.Answers.{table_of}
use Rattle.table.specs.declared.shape.Shape.{Shape}
use Rattle.pass_list.specs.Edges.{edge_of}
use Rattle.edge.specs.Layout.{listed}
use Rattle.lattice.specs.declared.Lattice.{Lattice}
use Rattle.lattice.specs.Kept.{Holds}
use Rattle.numbers.specs.CallEdge.{CallEdges}
use Rattle.pass_edge.specs.Grounded.{AllGrounded}
use Rattle.first_stages.specs.Five.{behind}
use Rattle.numbers.specs.Call.{passes_by, with_edges}
use Rattle.text.specs.declared.Place.{Place}

pub record CallDone (d : Bool) (line t : List ℕ) (h : Shape) (given u : List ℕ) (m : Lattice) (k : ℕ) : Type 0 where
  pub above : (passes_by d (table_of t h) (chars line)).above ≡ none
  pub holds : Holds u m (with_edges (passes_by d (table_of t h) (chars line)) (listed given))
  pub call : CallEdges (length (chars line)) (with_edges (passes_by d (table_of t h) (chars line)) (listed given))
  pub fifth : map (edge_of (chars line) t) (behind u k) ≡ (passes_by d (table_of t h) (chars line)).fifth
  pub sounds : AllGrounded (chars line) t (behind u k)
  pub few : k ≤ max_chars

unfoldable pub CallPassed : Bool → List ℕ → List ℕ → Shape → List ℕ → List ℕ → Result (Lattice × ℕ) Place → Type 0
CallPassed d line t h given u (Err p) = (passes_by d (table_of t h) (chars line)).above ≡ some p.0
CallPassed d line t h given u (Ok (m, k)) = CallDone d line t h given u m k
