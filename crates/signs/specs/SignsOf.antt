-- The edges that signs give before a stored edge of the pass list (01, "The rest of the call", G6). Definitions only.
--     signs_of t w e   G6's edges for the passes' edge e
--     Assumes nothing.
use Rattle.std.specs.Prelude.{ℕ, cond, List, [], ◌++◌}
use Rattle.table.specs.Table.{Table}
use Rattle.passes.specs.NumEdge.{NumEdge, has}
use Rattle.edge.specs.Edge.{Edge}
use Rattle.numbers.specs.Signs.{signed}

-- the summand of `signs` for one edge
unfoldable pub signs_of : Table → List ℕ → NumEdge → List Edge
signs_of t w e = cond (has e.value) (signed w 45 e t.minus_signs ++ signed w 43 e t.plus_signs) []
