-- A line's characters through the five passes on stored edges are what the call's definitions say (01, "From characters to edges", "Five passes"; 02, S-13): the list after the
-- fifth pass, the joined edges in order, and refusal 7's place. First of the further call, for points anywhere; then of the first, without any.
use Prim.Native.Nat.{ℕ, zero, suc}
use native.Mathlib.Omega.{arith}
use mathlib.Core.Path.{◌≡◌, refl, sym, ap, ◌∙◌}
use mathlib.Core.Bool.{Bool, true, false≢true}
use mathlib.Core.List.{List, [], ◌∷◌, map}
use lib.ListN.{length, get_or}
use lib.Dec.{eqb}
use borrow.Author.Tests.{eqb-true}
use Rattle.text.specs.Text.{Scalars}
use Rattle.text.proofs.RowLaws.{and-true}
use Rattle.table.specs.Table.{Table}
use Rattle.passes.specs.NumEdge.{NumEdge}
use Rattle.passes.specs.NumEdge as edges
use Rattle.passes.specs.Characters.{first_list}
use Rattle.passes.specs.Passes.{five, fifth_list, joined_edges, above_at}
use Rattle.passes.specs.DecimalPasses as decimal
use Rattle.passes.specs.DecimalPasses.{DecimalEdge, whole_edge, point_character, bare_edges}
use Rattle.passes.proofs.DecimalAgrees.{through_whole, added_by_whole, bare_whole}
use Rattle.pass_list.specs.StoredEdge.{StoredEdge, Every, nil, cons}
use Rattle.pass_list.specs.StoredPass.{first_above}
use Rattle.pass_list.specs.Edges.{edge_of, decimal_edge_of, WellMade, points_of, no_point}
use Rattle.pass_list.specs.InTurn.{through, added_by}
use Rattle.pass_list.specs.FirstStored.{FirstStored}
use Rattle.pass_list.proofs.in_turn.InTurnLaws.{through_agrees, through_made, added_by_agrees, bare_edges_lem, above_by_agrees}
use Rattle.pass_list.proofs.in_turn.FirstStoredLaws.{first_stored_edges_all}

-- ---- the further call
-- the places of `points_of` hold a point
pub points_are : (b : Bool) (w : List ℕ) (p : ℕ) → points_of b w p ≡ true → get_or w p 0 ≡ point_character
points_are b w p h = eqb-true (get_or w p 0) point_character (and-true b (eqb (get_or w p 0) point_character) h).1

whole_edges : (w t : List ℕ) (l : List StoredEdge) → Every (λ x. x.decimals ≡ 0) l → map (decimal_edge_of w t) l ≡ map whole_edge (map (edge_of w t) l)
whole_edges w t [] nil = refl
whole_edges w t (x ∷ l) (cons z h) = rw (z, whole_edges w t l h)

module _ (point : ℕ → Bool) (w t : List ℕ) (scalars : Scalars w) (points : (p : ℕ) → point p ≡ true → get_or w p 0 ≡ point_character) where
  pub record DecimalFive (table : Table) (l : List StoredEdge) : Type 0 where
    pub first : map (edge_of w t) l ≡ first_list table w
    pub fifth : map (decimal_edge_of w t) (through five l) ≡ decimal.through point five (map whole_edge (first_list table w))
    pub joined : map (decimal_edge_of w t) (added_by five l) ≡ decimal.added_by point five (map whole_edge (first_list table w))
    pub above : first_above (added_by five l) ≡ edges.first_above (bare_edges (decimal.added_by point five (map whole_edge (first_list table w))))
    pub made : Every (WellMade point w t) (through five l)

  pub decimal_five : (table : Table) (l : List StoredEdge) → FirstStored point w t table.records (length w) l → DecimalFive table l
  decimal_five table l h =
      let first : map (edge_of w t) l ≡ first_list table w = first_stored_edges_all point w t table.records l h in
      let all : map (decimal_edge_of w t) l ≡ map whole_edge (first_list table w) = whole_edges w t l h.whole ∙ ap (map whole_edge) first in
      record {
        first = first;
        fifth = through_agrees point w t scalars points five l h.made ∙ ap (decimal.through point five) all;
        joined = added_by_agrees point w t scalars points five l h.made ∙ ap (decimal.added_by point five) all;
        above = above_by_agrees point w t scalars points five l h.made ∙ ap (λ (es : List DecimalEdge). edges.first_above (bare_edges (decimal.added_by point five es))) all;
        made = through_made point w t scalars points five l h.made;
      }

-- ---- the first call
pub no_points : (w : List ℕ) (p : ℕ) → no_point p ≡ true → get_or w p 0 ≡ point_character
no_points w p e = absurd (false≢true e)

-- no edge has decimals there, and a row's text is its digits
pub no_decimals : {w t : List ℕ} {x : StoredEdge} → WellMade no_point w t x → x.decimals ≡ 0
no_decimals {x = x} m = go x.decimals refl
  where
    go : (k : ℕ) → x.decimals ≡ k → k ≡ 0
    go zero e = refl
    go (suc k) e = absurd (false≢true (m.point_before (omega arith)))

pub record FiveAre (w t : List ℕ) (table : Table) (l : List StoredEdge) : Type 0 where
  pub first : map (edge_of w t) l ≡ first_list table w
  pub fifth : map (edge_of w t) (through five l) ≡ fifth_list table w
  pub joined : map (edge_of w t) (added_by five l) ≡ joined_edges table w
  pub above : first_above (added_by five l) ≡ above_at table w
  pub made : Every (WellMade no_point w t) (through five l)

pub five_are : (w t : List ℕ) → Scalars w → (table : Table) (l : List StoredEdge) → FirstStored no_point w t table.records (length w) l → FiveAre w t table l
five_are w t scalars table l h =
    let d = decimal_five no_point w t scalars (no_points w) table l h in
    let joins : bare_edges (decimal.added_by no_point five (map whole_edge (first_list table w))) ≡ joined_edges table w = ap bare_edges (added_by_whole no_point (λ p. refl) five (first_list table w)) ∙ bare_whole (joined_edges table w) in
    record {
      first = d.first;
      fifth = sym (bare_edges_lem no_point w t scalars (no_points w) (through five l)) ∙ ap bare_edges (d.fifth ∙ through_whole no_point (λ p. refl) five (first_list table w)) ∙ bare_whole (fifth_list table w);
      joined = sym (bare_edges_lem no_point w t scalars (no_points w) (added_by five l)) ∙ ap bare_edges d.joined ∙ joins;
      above = d.above ∙ ap edges.first_above joins;
      made = d.made;
    }
