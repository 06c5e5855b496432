-- The edges that signs give before a stored edge of the pass list (01, "The rest of the call", G6). Definitions only.
--     Signs line t x c ms ..      the lattice is the one before with the edges that the signs ms give before the code's edge x, and what is behind it is as it was
--     Begins s r t                s begins with the r bytes t
--     Assumes nothing.
use Rattle.std.specs.Prelude.{ℕ, ◌≤◌, ◌≡◌, List, length, take}
use Rattle.text.specs.Text.{chars}
use Rattle.table.specs.Table.{Text}
use Rattle.edge.specs.Edge.{Edge}
use Rattle.lattice.specs.Lattice.{add_all}
use Rattle.lattice.specs.declared.Lattice.{Lattice}
use Rattle.lattice.specs.Kept.{Holds, SameBehind}
use Rattle.pass_list.specs.declared.record.PassEdge.{PassEdge}
use Rattle.pass_list.specs.StoredEdge.{StoredEdge, EdgeIs}
use Rattle.pass_list.specs.Edges.{edge_of}
use Rattle.numbers.specs.Signs.{signed}

-- s and l are the work space and the lattice before, u and r those after
pub record Signs (line t : List ℕ) (x : PassEdge) (c : ℕ) (ms : List Text) (s : List ℕ) (l : Lattice) (u : List ℕ) (r : Lattice) : Type 0 where
  pub frame : SameBehind s u
  pub holds : (es : List Edge) (i : StoredEdge) → Holds s l es → EdgeIs x i → Holds u r (add_all es (signed (chars line) c (edge_of (chars line) t i) ms))

pub record Begins (s : List ℕ) (r : ℕ) (t : Text) : Type 0 where
  pub is : take r s ≡ t
  pub inside : r ≤ length s
