-- A copy of an edge, with a text before its txt. Definitions only.
--     prefixed x e                     the edge e with the text x before its txt
--     prefixed_bytes w at txt n to x    the bytes of w from at to the offset to, with x before the n bytes of the string at txt
--     Source w len at to k e           e stands in the first len bytes of w from at to the offset to, and is short enough for a copy with k bytes more
--     Assumes nothing.
use Rattle.std.specs.Prelude.{◌≡◌, List, ◌++◌, ℕ, ◌+◌, ◌-◌, ◌≤◌, length}
use Rattle.fields.specs.Fields.{bytes_of}
use Rattle.fields.specs.Part.{part}
use Rattle.edge.specs.Edge.{Text, Edge, edge_bytes, EdgeFits}
use Rattle.lattice.specs.Kept.{SLACK}

unfoldable pub prefixed : Text → Edge → Edge
prefixed x e = record { start = e.start; end = e.end; type = e.type; txt = x ++ e.txt; num = e.num }

-- the string's length stands before it, in two bytes
unfoldable pub prefixed_bytes : List ℕ → ℕ → ℕ → ℕ → ℕ → Text → List ℕ
prefixed_bytes w at txt n to x = part w at (txt - 2 - at) ++ (bytes_of 2 (length x + n) ++ (x ++ part w txt (to - txt)))

pub record Source (w : List ℕ) (len at to k : ℕ) (e : Edge) : Type 0 where
  pub fits : EdgeFits e
  pub there : part w at (length (edge_bytes e)) ≡ edge_bytes e
  pub ends : to ≡ at + length (edge_bytes e)
  pub inside : to ≤ len
  pub short : length (edge_bytes e) + k ≤ SLACK
