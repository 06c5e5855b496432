-- The five passes in the work space, and what they add to the lattice. w are the line's code points, t the table's bytes. Definitions only.
--     listed_stored w t l              the edges that the stored edges l stand for, as they are listed
--     PassList w t k s n              s begins with a pass list of n stored edges, all sound and of kinds before k
--     OnePass .. r, FivePasses .. r   the i-th pass, and all five, answered r: the start of the first joined edge above TOP, or the lattice with the joined edges
--     Assumes nothing.
use Rattle.std.specs.Prelude.{◌≡◌, List, map, ℕ, suc, ◌+◌, ◌≤◌, ◌<◌, length, drop, Result, Ok, Err}
use Rattle.std.proofs.Math.Option.{none, some}
use Rattle.passes.specs.Passes.{five}
use Rattle.pass_list.specs.StoredEdge.{StoredEdge, Every}
use Rattle.pass_list.specs.StoredPass.{after, added, first_above}
use Rattle.pass_list.specs.Stored.{stored_list_at}
use Rattle.pass_list.specs.InTurn.{through, added_by}
use Rattle.pass_list.specs.Kind.{kind_number}
use Rattle.pass_run.specs.Nth.{nth}
use Rattle.edge.specs.Edge.{Edge}
use Rattle.lattice.specs.declared.Lattice.{Lattice}
use Rattle.lattice.specs.Lattice.{add_all}
use Rattle.lattice.specs.Kept.{Holds, END}
use Rattle.pass_edge.specs.Grounded.{AllGrounded}
use Rattle.pass_edge.specs.Adding.{listed_of}
use Rattle.text.specs.Line.{max_chars}
use Rattle.text.specs.declared.Place.{Place}

abbrev pub listed_stored : List ℕ → List ℕ → List StoredEdge → List Edge
listed_stored w t l = map (listed_of w t) l

-- the list behind the lattice
abbrev pub behind : List ℕ → ℕ → List StoredEdge
behind s n = stored_list_at (drop END s) 0 n

pub record PassList (w t : List ℕ) (k : ℕ) (s : List ℕ) (n : ℕ) : Type 0 where
  pub sounds : AllGrounded w t (behind s n)
  pub kinds : Every (λ x. kind_number x.kind < k) (behind s n)
  pub few : n ≤ max_chars

pub record OneDone (w t : List ℕ) (i : ℕ) (s : List ℕ) (l : Lattice) (n : ℕ) (u : List ℕ) (m : Lattice) (k : ℕ) : Type 0 where
  pub below : first_above (added (nth i) (behind s n)) ≡ none
  pub list : behind u k ≡ after (nth i) (behind s n)
  pub next : PassList w t (suc (suc i)) u k
  pub holds : (es : List Edge) → Holds s l es → Holds u m (add_all es (listed_stored w t (added (nth i) (behind s n))))

unfoldable pub OnePass : List ℕ → List ℕ → ℕ → List ℕ → Lattice → ℕ → List ℕ → Result (Lattice × ℕ) Place → Type 0
OnePass w t i s l n u (Err p) = first_above (added (nth i) (behind s n)) ≡ some p.0
OnePass w t i s l n u (Ok (m, k)) = OneDone w t i s l n u m k

pub record FiveDone (w t s : List ℕ) (l : Lattice) (n : ℕ) (u : List ℕ) (m : Lattice) (k : ℕ) : Type 0 where
  pub below : first_above (added_by five (behind s n)) ≡ none
  pub list : behind u k ≡ through five (behind s n)
  pub sounds : AllGrounded w t (behind u k)
  pub few : k ≤ max_chars
  pub holds : (es : List Edge) → Holds s l es → Holds u m (add_all es (listed_stored w t (added_by five (behind s n))))

unfoldable pub FivePasses : List ℕ → List ℕ → List ℕ → Lattice → ℕ → List ℕ → Result (Lattice × ℕ) Place → Type 0
FivePasses w t s l n u (Err p) = first_above (added_by five (behind s n)) ≡ some p.0
FivePasses w t s l n u (Ok (m, k)) = FiveDone w t s l n u m k
