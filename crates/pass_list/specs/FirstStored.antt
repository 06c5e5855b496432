-- Which stored edges a line's characters have before D1 (01, "From characters to edges"). Definitions only.
--     FirstStored point w t rs n l   l are the stored edges of the first n characters of the line w (code points), by the records rs of the table's bytes t; `point`
--                                    says which places hold a point without a record
--     Assumes nothing.
use Rattle.std.specs.Prelude.{ℕ, ◌≡◌, Bool, List, map, take}
use Rattle.table.specs.Table.{Record}
use Rattle.passes.specs.Characters.{char_edges}
use Rattle.pass_list.specs.StoredEdge.{StoredEdge, Every}
use Rattle.pass_list.specs.Edges.{edge_of, WellMade}
use Rattle.pass_list.specs.Kind.{kind_number}

pub record FirstStored (point : ℕ → Bool) (w t : List ℕ) (rs : List Record) (n : ℕ) (l : List StoredEdge) : Type 0 where
  -- they stand for the edges of D1's list
  pub edges : map (edge_of w t) l ≡ char_edges rs 0 (take n w)
  pub made : Every (WellMade point w t) l
  -- none is joined, and none has decimals
  pub kinds : Every (λ x. kind_number x.kind ≡ 0) l
  pub whole : Every (λ x. x.decimals ≡ 0) l
