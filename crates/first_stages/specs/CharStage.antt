-- What the stage of the line's characters leaves. Definitions only.
--     Room s l line offs             what adding a line's characters asks: a lattice l in the work space s, room for the stored edges behind it, the line's offsets
--     char_here b line t p at i c     the stored edge of the code point c at place i of the line, by its record p at the offset at; b: points count
--     Grown line t s l u r           from the work space s with lattice l to u: the lattice r has the edges of the stored edges behind it besides
--     Adding b line t rs k s l u r   b: points count. Of the first k characters those with a record among rs were added, from the work space s with lattice l to u: as r says
--     FirstDone d line t h s l u r   d: the call has decimals. The edges of the line's characters were added, from the work space s with lattice l to u: the lattice and the stored edges' count r
--     Assumes nothing.
use Rattle.std.specs.Prelude.{Bool, List, ℕ, ◌+◌, ◌≤◌, length, drop}
use Rattle.text.specs.Text.{chars}
use Rattle.text.specs.Line.{max_chars}
use Rattle.table.specs.Table.{Record}
use Rattle.table.specs.declared.shape.Shape.{Shape}
use Rattle.table.specs.declared.layout.NumProp.{NumProp}
use Rattle.edge.specs.Edge.{Edge}
use Rattle.lattice.specs.declared.Lattice.{Lattice}
use Rattle.lattice.specs.Lattice.{add_all}
use Rattle.lattice.specs.Kept.{Holds, END}
use Rattle.numbers.specs.Ready.{Offsets, work_size}
use Rattle.pass_list.specs.StoredEdge.{StoredEdge}
use Rattle.pass_list.specs.Edges.{points_of}
use Rattle.characters.specs.CharStored.{char_stored}
use Rattle.characters.specs.Initial.{SoFar, Initial}
use Rattle.first_stages.specs.Five.{listed_stored, behind, PassList}
use Rattle.first_stages.specs.declared.chars.CharsAnswer.{CharsAnswer}

pub record Room (s : List ℕ) (l : Lattice) (line offs : List ℕ) : Type 0 where
  pub holds : (es : List Edge) × Holds s l es
  pub offsets : Offsets line offs
  pub few : length (chars line) ≤ max_chars
  pub long : work_size ≤ length s

-- a point behind it is marked
abbrev pub char_here : Bool → List ℕ → List ℕ → NumProp → ℕ → ℕ → ℕ → StoredEdge
char_here b line t p at i c = char_stored t p at i c (points_of b (chars line) (i + 1))

-- the lattice l and the edges of the stored edges behind it
abbrev pub Grown : List ℕ → List ℕ → List ℕ → Lattice → List ℕ → CharsAnswer → Type 0
Grown line t s l u r = (es : List Edge) → Holds s l es → Holds u r.lattice (add_all es (listed_stored (chars line) t (behind u r.count)))

pub record Adding (b : Bool) (line t : List ℕ) (rs : List Record) (k : ℕ) (s : List ℕ) (l : Lattice) (u : List ℕ) (r : CharsAnswer) : Type 0 where
  pub so_far : SoFar (points_of b (chars line)) (chars line) t rs k (drop END u) r.count
  pub holds : Grown line t s l u r

pub record FirstDone (d : Bool) (line t : List ℕ) (h : Shape) (s : List ℕ) (l : Lattice) (u : List ℕ) (r : CharsAnswer) : Type 0 where
  pub initial : Initial d line t h (drop END u) r.count
  pub list : PassList (chars line) t 1 u r.count
  pub holds : Grown line t s l u r
