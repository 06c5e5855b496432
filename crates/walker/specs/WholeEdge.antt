-- A whole edge of a listing by its numbers. Definitions only.
--     no_fields m              the fields of a regular edge with map m: none
--     fields_behind m s at     the fields behind the head of an edge with map m, which ends at an offset: those of a numeric edge, or none
--     whole_edge_at s at        the whole edge at an offset, with the offset behind it; None where no whole edge stands
--     Assumes nothing.
use Rattle.std.specs.Prelude.{ℕ, cond, List, Option, Some, None}
use Rattle.edge.specs.declared.NumFields.{NumFields}
use Rattle.edge.specs.Layout.{stands, map_at, head_end, next_at}
use Rattle.edge.specs.View.{no_part, view_at, fields_at}
use Rattle.walker.specs.Walk.{whole}
use Rattle.edge.specs.declared.EdgeView.{EdgeView}
use Rattle.text.specs.declared.Offset.{Offset}

abbrev pub no_fields : ℕ → NumFields
no_fields m = record {
  map = m;
  value = 0;
  numerator = 0;
  denominator = 0;
  base = 0;
  base_multiplier = 0;
  orig = no_part;
  script = no_part;
  value_s = no_part;
  decimals = 0;
}

-- 01: "without bit 0 no other stands"
abbrev pub fields_behind : ℕ → List ℕ → ℕ → NumFields
fields_behind m s at = cond (stands 0 m) (fields_at m s at) (no_fields m)

abbrev pub whole_edge_at : List ℕ → ℕ → Option (EdgeView × NumFields × Offset)
whole_edge_at s at = cond (whole s at) (Some (view_at s at, fields_behind (map_at s at) s (head_end s at), record { 0 = next_at s at })) None
