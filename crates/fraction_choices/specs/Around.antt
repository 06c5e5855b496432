-- The neighbours of every place, as the code keeps them. Definitions only.
--     HoldsLine w l es            the lattice l of the work space w holds the edges es of a line of at most 256 characters, and is not full
--     side_of right p              what is asked for at place p: its right neighbour or its left one
--     place_of right e             the place whose neighbour an edge may be
--     kept_of es x                 the edge that a number x stands for: one more than its index; 0: none
--     Neighbors right es t        the table t keeps the neighbours of all places on one side
--     HoldsNeighbors w l a z es   besides, the tables a and z keep the left and the right neighbours of all places
-- Assumes nothing.
use Rattle.std.specs.Prelude.{◌≡◌, Bool, true, false, List, ℕ, zero, suc, ◌≤◌, get_or}
use Rattle.std.proofs.Math.Option.{none, some}
use Rattle.edge.specs.Edge.{Edge}
use Rattle.lattice.specs.declared.Lattice.{Lattice}
use Rattle.lattice.specs.Kept.{no_edge, Holds}
use Rattle.paths.specs.declared.Query.{Query}
use Rattle.paths.specs.declared.Query.TheVariants.{Right, Left}
use Rattle.paths.specs.Best.{Best, best, numbered}
use Rattle.numbers.specs.CallEdge.{CallEdges}
use Rattle.text.specs.Line.{max_chars}

pub record HoldsLine (w : List ℕ) (l : Lattice) (es : List Edge) : Type 0 where
  pub chars : ℕ
  pub few : chars ≤ max_chars
  pub not_full : (l.len ≡ 0 → ⊥)
  pub holds : Holds w l es
  pub edges : CallEdges chars es

abbrev pub side_of : Bool → ℕ → Query
side_of true p = Right (record { 0 = p })
side_of false p = Left (record { 0 = p })

-- an edge starts where it is a right neighbour, and ends where it is a left one
abbrev pub place_of : Bool → Edge → ℕ
place_of true e = e.start
place_of false e = e.end

abbrev pub kept_of : List Edge → ℕ → Best
kept_of es zero = none
kept_of es (suc i) = some (i, get_or es i no_edge)

pub record Neighbors (right : Bool) (es : List Edge) (table : List ℕ) : Type 0 where
  pub at : (p : ℕ) → p ≤ max_chars → kept_of es (get_or table p 0) ≡ best false (side_of right p) (numbered 0 es)

pub record HoldsNeighbors (w : List ℕ) (l : Lattice) (lefts rights : List ℕ) (es : List Edge) : Type 0 where
  pub keeps : HoldsLine w l es
  pub left : Neighbors false es lefts
  pub right : Neighbors true es rights
