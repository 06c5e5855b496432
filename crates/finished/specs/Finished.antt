-- What a finished listing is to the calls that read it. Definitions only.
--     Bytes s                       each number of s is a byte
--     FinishedAs es line bytes      the bytes are those of the lattice es, which keeps within 01's limits; the check that the reading calls make accepts them over the line, with the
--                                   lattice's count; and the edges that they list are the lattice
--     FinishedBy b t line given bytes   the same of the lattice of the table t, the line and the given edges; b says whether some singles may not stand; Finished: in the first call
--     decimal_edges_of t line given   the lattice of the call with decimals
--     Assumes nothing.
use Rattle.std.specs.Prelude.{◌≡◌, Bool, false, List, map, ℕ, ◌≤◌, ◌<◌, length, get_or, Ok}
use Rattle.text.specs.Text.{chars}
use Rattle.table.specs.Table.{Table}
use Rattle.edge.specs.Edge.{Edge, listing_bytes}
use Rattle.edge.specs.Layout.{listed}
use Rattle.edge.specs.Check.{check_listing}
use Rattle.paths.specs.Best.{with_offsets}
use Rattle.paths.specs.Reading.{read_check}
use Rattle.numbers.specs.CallEdge.{Legals}
use Rattle.numbers.specs.Call.{lattice_by, decimal_lattice}

abbrev pub Bytes : List ℕ → Type 0
Bytes s = (j : ℕ) → get_or s j 0 < 256

-- the lattice of the line
abbrev pub edges_by : Bool → Table → List ℕ → List ℕ → List Edge
edges_by b t line given = lattice_by b t (chars line) (listed given)

abbrev pub edges_of : Table → List ℕ → List ℕ → List Edge
edges_of = edges_by false

-- that of the call with decimals
abbrev pub decimal_edges_of : Table → List ℕ → List ℕ → List Edge
decimal_edges_of t line given = decimal_lattice t (chars line) (listed given)

pub record FinishedAs (es : List Edge) (line bytes : List ℕ) : Type 0 where
  pub bytes_are : bytes ≡ listing_bytes es
  pub accepted : check_listing false (length (chars line)) bytes ≡ Ok (length es)
  pub edges : listed bytes ≡ es
  -- checks 2, 3 and 6 of a reading call
  pub readable : read_check line bytes ≡ Ok (length (chars line), length es)
  -- the edges that a reading call looks at, each with its offset
  pub looked_at : map (λ (x : ℕ × Edge). x.1) (with_offsets (length es) bytes 2) ≡ es
  -- "over 1,024 edges, over 32,768 bytes" it would have been refused 8
  pub few : length es ≤ 1024
  pub short : length bytes ≤ 32768
  pub legal : Legals (length (chars line)) es

abbrev pub FinishedBy : Bool → Table → List ℕ → List ℕ → List ℕ → Type 0
FinishedBy b t line given bytes = FinishedAs (edges_by b t line given) line bytes

abbrev pub Finished : Table → List ℕ → List ℕ → List ℕ → Type 0
Finished t line given bytes = FinishedBy false t line given bytes
