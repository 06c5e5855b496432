-- The rows of a listing (01: "one edge a row"). Definitions only.
--     rows_bytes es    the rows of edges, in their order
--     RowsFit s out   no edge of the listing s is cut off, and out has room for their rows
--     Assumes nothing.
use Rattle.std.specs.Prelude.{List, [], ◌∷◌, ◌++◌, ℕ, ◌≤◌, length}
use Rattle.fields.specs.Fields.{le_at}
use Rattle.edge.specs.Edge.{Edge}
use Rattle.edge.specs.Layout.{listed}
use Rattle.paths.specs.Best.{Whole}
use Rattle.rows.specs.Rows.{row_bytes}

unfoldable pub rows_bytes : List Edge → List ℕ
rows_bytes [] = []
rows_bytes (e ∷ es) = row_bytes e ++ rows_bytes es

pub record RowsFit (s out : List ℕ) : Type 0 where
  pub count : 2 ≤ length s
  pub whole : Whole (le_at s 0 2) s 2
  pub room : length (rows_bytes (listed s)) ≤ length out
