-- The edges of the lattice after the five passes may be listed, and those of the list after the fifth: of the definitions, without the work space. The table's bytes s are read
-- as t, the line has the scalar values w, and no joined value is above TOP. No contract cites this file.
-- In order: either call; the first; the call with decimals. Assumes nothing.
use Prim.Native.Nat.{ℕ, ◌≤◌}
use mathlib.Core.Path.{◌≡◌, ◌∙◌, subst}
use mathlib.Core.Bool.{Bool, true, false}
use mathlib.Core.List.{List, map}
use mathlib.Core.Option.{none}
use lib.ListN.{length}
use Rattle.text.specs.Text.{Scalars}
use Rattle.table.specs.Table.{Table}
use Rattle.table.specs.Check.{Fine, read_table}
use Rattle.passes.specs.Passes.{five, fifth_list, above_at}
use Rattle.passes.specs.DecimalPasses.{decimal_fifth_list, decimal_above_at}
use Rattle.pass_list.specs.StoredEdge.{StoredEdge, Every, nil}
use Rattle.pass_list.specs.Edges.{points_of}
use Rattle.pass_list.specs.InTurn.{added_by, through}
use Rattle.pass_list.proofs.in_turn.EveryLaws.{every_append}
use Rattle.edge.specs.Edge.{Edge}
use Rattle.pass_edge.specs.Grounded.{Grounded}
use Rattle.pass_edge.specs.Adding.{listed_of}
use Rattle.pass_edge.proofs.theorems.Theorems.{stored_edges_call}
use Rattle.characters.specs.Initial.{points_count}
use Rattle.characters.proofs.FirstLaws.{first_grounded}
use Rattle.characters.proofs.Theorems.{listed_fifth, passes_are}
use Rattle.numbers.specs.CallEdge.{CallEdge, CallEdges}
use Rattle.numbers.specs.Listed.{listed_edge, listed_decimal}
use Rattle.numbers.specs.Call.{after_passes, passes_by, with_edges}
use Rattle.numbers.proofs.stages.CallLaws.{add_all_call}
use Rattle.first_stages.proofs.five_passes.GroundLaws.{passes_grounded}

module _ (d : Bool) (s : List ℕ) (t : Table) {end : ℕ} (table : read_table s ≡ Fine t end) (w : List ℕ) (scalars : Scalars w) (few : length w ≤ 256) (below : (passes_by d t w).above ≡ none) where
  abbrev points : ℕ → Bool
  points = points_of (points_count d t) w

  stored_call : (l : List StoredEdge) → Every (Grounded points w s) l → CallEdges (length w) (map (listed_of w s) l)
  stored_call l g = stored_edges_call w s scalars few l (record { marks = points_count d t; each = g })

  -- those of the characters and the joined ones; the list after the fifth pass
  passes_call : CallEdges (length w) (passes_by d t w).edges × CallEdges (length w) (listed_fifth d t w)
  passes_call =
      let f = first_grounded points w s table scalars in
      let are = passes_are w s scalars t f.stored_edges d f.first in
      let all = passes_grounded (points_count d t) w s scalars five f.stored_edges f.grounded (are.above ∙ below) in
      let edges = every_append (CallEdge (length w)) _ _ (stored_call f.stored_edges f.grounded) (stored_call (added_by five f.stored_edges) all.joined) in
      (subst (CallEdges (length w)) are.edges edges, subst (CallEdges (length w)) are.fifth_listed (stored_call (through five f.stored_edges) all.last))

  pub with_edges_call : (given : List Edge) → CallEdges (length w) given → CallEdges (length w) (with_edges (passes_by d t w) given)
  with_edges_call given gives = add_all_call (add_all_call nil gives) passes_call.0

-- ---- the first call
module _ (s : List ℕ) (t : Table) {end : ℕ} (table : read_table s ≡ Fine t end) (w : List ℕ) (scalars : Scalars w) (few : length w ≤ 256) (below : above_at t w ≡ none) where
  pub fifth_call : CallEdges (length w) (map listed_edge (fifth_list t w))
  fifth_call = (passes_call false s t table w scalars few below).1

  pub after_passes_call : (given : List Edge) → CallEdges (length w) given → CallEdges (length w) (after_passes t w given)
  unfolding after_passes
  after_passes_call = with_edges_call false s t table w scalars few below

-- ---- the call with decimals
pub decimal_fifth_call : (s : List ℕ) (t : Table) {end : ℕ} → read_table s ≡ Fine t end → (w : List ℕ) → Scalars w → length w ≤ 256 → decimal_above_at t w ≡ none
    → CallEdges (length w) (map listed_decimal (decimal_fifth_list t w))
decimal_fifth_call s t table w scalars few below = (passes_call true s t table w scalars few below).1
