-- What C is told of the edge at an offset of a listing. Definitions only.
--     numbers_of v d      the numbers of an edge, in their order: map, start, end; offset and length of type, txt and orig_txt; value, numerator, denominator, base and mult; offset
--                        and length of script and value_s; the count of decimals. Those whose bit of the map does not stand are 0; value and mult are the bits of their f64
--     edge_status w       0, or 6 where no whole edge stands
--     numbers_after b w   what the caller's numbers are afterwards: the edge's, or those that they were before
--     next_after at w     the offset behind the edge; the offset itself where no whole edge stands
--     Assumes nothing.
use Rattle.std.specs.Prelude.{ℕ, List, [], ◌∷◌, Option, Some, None}
use Rattle.edge.specs.declared.EdgeView.{EdgeView}
use Rattle.edge.specs.declared.NumFields.{NumFields}
use Rattle.text.specs.declared.Offset.{Offset}

abbrev pub numbers_of : EdgeView → NumFields → List ℕ
numbers_of v d =
    v.map ∷ v.start.0 ∷ v.end.0
    ∷ v.ty.at.0 ∷ v.ty.len ∷ v.txt.at.0 ∷ v.txt.len ∷ d.orig.at.0 ∷ d.orig.len
    ∷ d.value ∷ d.numerator ∷ d.denominator ∷ d.base ∷ d.base_multiplier
    ∷ d.script.at.0 ∷ d.script.len ∷ d.value_s.at.0 ∷ d.value_s.len
    ∷ d.decimals ∷ []

abbrev pub edge_status : Option (EdgeView × NumFields × Offset) → ℕ
edge_status (Some (v, d, next)) = 0
edge_status None = 6

abbrev pub numbers_after : List ℕ → Option (EdgeView × NumFields × Offset) → List ℕ
numbers_after before (Some (v, d, next)) = numbers_of v d
numbers_after before None = before

-- 01: "offset of the edge"
abbrev pub next_after : ℕ → Option (EdgeView × NumFields × Offset) → ℕ
next_after at (Some (v, d, next)) = next.0
next_after at None = at
