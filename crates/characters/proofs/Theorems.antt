-- The pass list that `initialize_num_edges` leaves goes through the five passes as the call's definitions say, with decimals or without: by the theorems of `pass_list::in_turn`.
-- In order: the edges as they are listed; a point; the call with decimals; the first call; the stage's list. Assumes nothing.
use Prim.Native.Nat.{ℕ}
use mathlib.Core.Path.{◌≡◌, refl, sym, ap, ◌∙◌}
use mathlib.Core.Bool.{Bool, true, false, cond}
use mathlib.Core.List.{List, [], ◌∷◌, ◌++◌, map, map-append, map-map}
use lib.ListN.{length, get_or}
use lib.Dec.{eqb}
use borrow.Author.Tests.{eqb-true}
use Rattle.text.specs.Text.{chars, Scalars}
use Rattle.text.proofs.RowLaws.{and-true}
use Rattle.text.proofs.TextLaws.{chars_scalars}
use Rattle.table.specs.Table.{Table, find, is_none}
use Rattle.table.specs.Answers.{table_of}
use Rattle.table.specs.declared.shape.Shape.{Shape}
use Rattle.passes.specs.NumEdge.{NumEdge}
use Rattle.passes.specs.Characters.{first_list}
use Rattle.passes.specs.Passes.{five, fifth_list, joined_edges}
use Rattle.passes.specs.DecimalPasses.{whole_edge, point_at, point_character, bare_edges, decimal_first_list, decimal_fifth_list, decimal_joined_edges}
use Rattle.passes.proofs.DecimalAgrees.{through_whole, added_by_whole}
use Rattle.pass_list.specs.StoredEdge.{StoredEdge, Every, nil, cons}
use Rattle.pass_list.specs.StoredPass.{first_above}
use Rattle.pass_list.specs.Stored.{stored_list_at}
use Rattle.pass_list.specs.Edges.{edge_of, decimal_edge_of, points_of, no_point}
use Rattle.pass_list.specs.InTurn.{through, added_by}
use Rattle.pass_list.specs.FirstStored.{FirstStored}
use Rattle.pass_list.proofs.in_turn.InTurnLaws.{bare_edges_lem}
use Rattle.pass_list.proofs.in_turn.Theorems.{decimal_five, five_are, no_points}
use Rattle.edge.specs.Edge.{Edge}
use Rattle.pass_edge.specs.Adding.{listed_of}
use Rattle.numbers.specs.Listed.{listed_edge, listed_decimal}
use Rattle.numbers.specs.Call.{passes_by}
use Rattle.characters.specs.Initial.{points_count, Initial}

-- the list after the fifth pass, as it is listed
abbrev pub listed_fifth : Bool → Table → List ℕ → List Edge
listed_fifth d t w = cond d (map listed_decimal (decimal_fifth_list t w)) (map listed_edge (fifth_list t w))

-- what the passes make of the stored edges l of a line is what the definitions say; d: the call has decimals
pub record PassesAre (d : Bool) (w t : List ℕ) (table : Table) (l : List StoredEdge) : Type 0 where
  pub edges : map (listed_of w t) l ++ map (listed_of w t) (added_by five l) ≡ (passes_by d table w).edges
  pub fifth : map (edge_of w t) (through five l) ≡ (passes_by d table w).fifth
  pub fifth_listed : map (listed_of w t) (through five l) ≡ listed_fifth d table w
  pub above : first_above (added_by five l) ≡ (passes_by d table w).above

-- ---- the edges as they are listed; those without decimals as in the first call
whole_listed : (es : List NumEdge) → map listed_decimal (map whole_edge es) ≡ map listed_edge es
unfolding listed_decimal
whole_listed [] = refl
whole_listed (e ∷ es) = ap (λ (ls : List Edge). listed_edge e ∷ ls) (whole_listed es)

stored_listed : (w t : List ℕ) (l : List StoredEdge) → map (listed_of w t) l ≡ map listed_decimal (map (decimal_edge_of w t) l)
stored_listed w t l = sym (map-map listed_decimal (decimal_edge_of w t) l)

first_listed : (w t : List ℕ) (l : List StoredEdge) → Every (λ x. x.decimals ≡ 0) l → map (listed_of w t) l ≡ map listed_edge (map (edge_of w t) l)
unfolding listed_decimal
first_listed w t [] nil = refl
first_listed w t (x ∷ l) (cons z h) = rw (z, first_listed w t l h)

-- ---- a point that counts is one
pub point_there : (b : Bool) (w : List ℕ) (p : ℕ) → points_of b w p ≡ true → get_or w p 0 ≡ point_character
point_there b w p e = eqb-true (get_or w p 0) point_character (and-true b (eqb (get_or w p 0) point_character) e).1

module _ (w t : List ℕ) (scalars : Scalars w) (table : Table) (l : List StoredEdge) where
  abbrev Line : (ℕ → Bool) → Type 0
  Line point = FirstStored point w t table.records (length w) l

  -- ---- the call with decimals
  points : (p : ℕ) → point_at table w p ≡ true → get_or w p 0 ≡ point_character
  unfolding point_at
  points p e = point_there (is_none (find table.records point_character)) w p e

  with_decimals : Line (point_at table w) → PassesAre true w t table l
  with_decimals h =
      let d = decimal_five (point_at table w) w t scalars points table l h in
      let firsts : map (listed_of w t) l ≡ map listed_decimal (decimal_first_list table w) = first_listed w t l h.whole ∙ ap (map listed_edge) d.first ∙ sym (whole_listed (first_list table w)) in
      record {
        edges = rw (firsts, stored_listed w t (added_by five l), d.joined) (sym (map-append listed_decimal (decimal_first_list table w) (decimal_joined_edges table w)));
        fifth = sym (bare_edges_lem (point_at table w) w t scalars points (through five l)) ∙ ap bare_edges d.fifth;
        fifth_listed = stored_listed w t (through five l) ∙ ap (map listed_decimal) d.fifth;
        above = d.above;
      }

  -- ---- the first call
  without_decimals : Line no_point → PassesAre false w t table l
  without_decimals h =
      let are = five_are w t scalars table l h in
      let d = decimal_five no_point w t scalars (no_points w) table l h in
      let firsts : map (listed_of w t) l ≡ map listed_edge (first_list table w) = first_listed w t l h.whole ∙ ap (map listed_edge) d.first in
      let joins : map (listed_of w t) (added_by five l) ≡ map listed_edge (joined_edges table w) =
      stored_listed w t (added_by five l) ∙ ap (map listed_decimal) (d.joined ∙ added_by_whole no_point (λ p. refl) five (first_list table w)) ∙ whole_listed (joined_edges table w) in
      record {
        edges = rw (firsts, joins) (sym (map-append listed_edge (first_list table w) (joined_edges table w)));
        fifth = are.fifth;
        fifth_listed = stored_listed w t (through five l) ∙ ap (map listed_decimal) (d.fifth ∙ through_whole no_point (λ p. refl) five (first_list table w)) ∙ whole_listed (fifth_list table w);
        above = are.above;
      }

  pub passes_are : (d : Bool) → Line (points_of (points_count d table) w) → PassesAre d w t table l
  unfolding point_at
  passes_are true h = with_decimals h
  passes_are false h = without_decimals h

-- ---- the stage's list
pub initial_five : (d : Bool) (line t : List ℕ) (h : Shape) (s : List ℕ) (n : ℕ) → Initial d line t h s n → PassesAre d (chars line) t (table_of t h) (stored_list_at s 0 n)
initial_five d line t h s n i = passes_are (chars line) t (chars_scalars line) (table_of t h) (stored_list_at s 0 n) d i.stored_edges
