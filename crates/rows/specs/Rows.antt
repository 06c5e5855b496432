-- The rows that the program prints for edges (01: "It prints start, end, type, txt, and 1, 0 or - (active, inactive, regular), tabs between, one edge a row;
-- .. a newline ends each row."). Definitions only.
--     mark x              1, 0 or - for an edge with the numeric data x
--     row ..              a row of start, end, type, txt and mark
--     row_bytes e          the row of an edge
--     view_mark m          the mark of an edge with the map m
--     view_row s v         the row of an edge of s that the code sees as v
--     Assumes nothing.
use Rattle.std.specs.Prelude.{ℕ, cond, List, [], ◌∷◌, ◌++◌}
use Rattle.std.proofs.Math.Option.{Option, none, some}
use Rattle.whole.specs.Decimal.{decimal}
use Rattle.rows.specs.Columns.{ended}
use Rattle.edge.specs.declared.EdgeView.{EdgeView}
use Rattle.edge.specs.Edge.{Text, Numeric, Edge}
use Rattle.edge.specs.Layout.{stands}
use Rattle.fields.specs.Part.{part_of}

abbrev pub mark : Option Numeric → ℕ
mark none = 45
mark (some n) = cond n.active 49 48

unfoldable pub row : ℕ → ℕ → Text → Text → ℕ → List ℕ
row start end type txt m = ended (decimal start) 9 ++ (ended (decimal end) 9 ++ (ended type 9 ++ (ended txt 9 ++ ended (m ∷ []) 10)))

abbrev pub row_bytes : Edge → List ℕ
row_bytes e = row e.start e.end e.type e.txt (mark e.num)

abbrev pub view_mark : ℕ → ℕ
view_mark m = cond (stands 0 m) (cond (stands 7 m) 49 48) 45

abbrev pub view_row : List ℕ → EdgeView → List ℕ
view_row s v = row v.start.0 v.end.0 (part_of s v.ty) (part_of s v.txt) (view_mark v.map)
