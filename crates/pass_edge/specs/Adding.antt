-- Stored edges added to the lattice: what one asks, and those of one kind in turn. Definitions only.
--     Addable s l line offs t e   what adding the code's edge e asks: a lattice l in the work space s, the line's offsets, and that e is a sound stored edge
--     Added line t e s l u r      the lattice r in u is l in s with the stored edge's edge, and what is behind it is as it was
--     listed_of w t x              the edge of the stored edge x as it is listed
--     kind_edges w t k l           the edges of the stored edges of l that are of kind k, as they are listed
--     add_if w t k es x            es with the edge of x added, if x is of kind k
--     Assumes nothing.
use Rattle.std.specs.Prelude.{cond, List, map, ℕ, ◌≤◌, eqb, length}
use Rattle.text.specs.Text.{chars}
use Rattle.text.specs.Line.{max_chars}
use Rattle.pass_list.specs.declared.record.PassEdge.{PassEdge}
use Rattle.pass_list.specs.StoredEdge.{StoredEdge}
use Rattle.pass_list.specs.Edges.{decimal_edge_of}
use Rattle.pass_list.specs.InTurn.{of_kind}
use Rattle.pass_list.specs.Kind.{kind_number}
use Rattle.edge.specs.Edge.{Edge}
use Rattle.lattice.specs.Lattice.{add}
use Rattle.lattice.specs.declared.Lattice.{Lattice}
use Rattle.lattice.specs.Kept.{Holds, SameBehind}
use Rattle.numbers.specs.Ready.{Offsets}
use Rattle.numbers.specs.Listed.{listed_decimal}
use Rattle.pass_edge.specs.Grounded.{StoredIs}

abbrev pub listed_of : List ℕ → List ℕ → StoredEdge → Edge
listed_of w t x = listed_decimal (decimal_edge_of w t x)

pub record Addable (s : List ℕ) (l : Lattice) (line offs t : List ℕ) (e : PassEdge) : Type 0 where
  pub holds : (es : List Edge) × Holds s l es
  pub offsets : Offsets line offs
  pub stored_edge : (x : StoredEdge) × StoredIs line t e x
  pub few : length (chars line) ≤ max_chars

pub record Added (line t : List ℕ) (e : PassEdge) (s : List ℕ) (l : Lattice) (u : List ℕ) (r : Lattice) : Type 0 where
  pub frame : SameBehind s u
  pub holds : (es : List Edge) (x : StoredEdge) → Holds s l es → StoredIs line t e x → Holds u r (add es (listed_of (chars line) t x))

abbrev pub kind_edges : List ℕ → List ℕ → ℕ → List StoredEdge → List Edge
kind_edges w t k l = map (listed_of w t) (of_kind k l)

unfoldable pub add_if : List ℕ → List ℕ → ℕ → List Edge → StoredEdge → List Edge
add_if w t k es x = cond (eqb (kind_number x.kind) k) (add es (listed_of w t x)) es
