-- The stored edges of a line's characters, one character after the other, for a loop over the line.
-- In order: one character more in `char_edges`; a turn of the loop; the whole line.
use Prim.Native.Nat.{ℕ, suc, ◌+◌, ◌<◌}
use native.Mathlib.Omega.{arith}
use native.Mathlib.Numerals.{add-one}
use native.Mathlib.Nat.{add-zero, add-suc, suc-add}
use mathlib.Core.Path.{◌≡◌, refl, sym, ◌∙◌}
use mathlib.Core.Bool.{Bool}
use mathlib.Core.List.{List, [], ◌∷◌, ◌++◌, map, map-append, append-nil}
use mathlib.Core.Option.{Option, none, some}
use lib.ListN.{length, get_or, take}
use lib.Seq.{take-suc, take-length, length-take-le}
use Rattle.table.specs.Table.{Record, find}
use Rattle.passes.specs.Characters.{char_edge, char_edges, with_edge}
use Rattle.pass_list.specs.StoredEdge.{StoredEdge, nil, cons}
use Rattle.pass_list.specs.Edges.{edge_of, WellMade}
use Rattle.pass_list.specs.FirstStored.{FirstStored}
use Rattle.pass_list.specs.Kind.{kind_number}
use Rattle.pass_list.proofs.in_turn.EveryLaws.{every_append}

char_edges_snoc : (rs : List Record) (w : List ℕ) (i c : ℕ) → char_edges rs i (w ++ (c ∷ [])) ≡ char_edges rs i w ++ with_edge (i + length w) c (find rs c) []
unfolding char_edges
char_edges_snoc rs [] i c = rw add-zero
char_edges_snoc rs (d ∷ w) i c = rw (char_edges_snoc rs w (suc i) c, add-suc, suc-add) (go (find rs d))
  where
    more : ℕ
    more = suc (i + length w)

    go : (o : Option Record) → with_edge i d o (char_edges rs (suc i) w ++ with_edge more c (find rs c) []) ≡ with_edge i d o (char_edges rs (suc i) w) ++ with_edge more c (find rs c) []
    go none = refl
    go (some r) = refl

module _ (point : ℕ → Bool) (w t : List ℕ) (rs : List Record) where
  pub first_stored_edges_none : FirstStored point w t rs 0 []
  unfolding char_edges
  first_stored_edges_none = record { edges = refl; made = nil; kinds = nil; whole = nil }

  -- ---- a turn: l are the stored edges of the characters before place n, where c stands
  module _ (n c : ℕ) (l : List StoredEdge) (inside : n < length w) (here : get_or w n 0 ≡ c) (so_far : FirstStored point w t rs n l) where
    edges_next : char_edges rs 0 (take (n + 1) w) ≡ map (edge_of w t) l ++ with_edge n c (find rs c) []
    edges_next =
        let place : 0 + length (take n w) ≡ n = omega (arith, length-take-le n w (omega arith)) in
        rw (add-one, take-suc w n 0 inside, here, char_edges_snoc rs (take n w) 0 c, place, so_far.edges)

    -- a character without a record
    pub first_stored_edges_skip : find rs c ≡ none → FirstStored point w t rs (n + 1) l
    first_stored_edges_skip e = record { edges = sym (edges_next ∙ rw (e, append-nil)); made = so_far.made; kinds = so_far.kinds; whole = so_far.whole }

    -- a character with a record, whose stored edge is x
    pub first_stored_edges_more : (r : Record) (x : StoredEdge) → find rs c ≡ some r → edge_of w t x ≡ char_edge n c r → WellMade point w t x → kind_number x.kind ≡ 0 → x.decimals ≡ 0
        → FirstStored point w t rs (n + 1) (l ++ (x ∷ []))
    first_stored_edges_more r x e is made kind whole = record {
      edges = map-append (edge_of w t) l (x ∷ []) ∙ rw is (sym (edges_next ∙ rw e));
      made = every_append (WellMade point w t) l (x ∷ []) so_far.made (cons made nil);
      kinds = every_append (λ (y : StoredEdge). kind_number y.kind ≡ 0) l (x ∷ []) so_far.kinds (cons kind nil);
      whole = every_append (λ (y : StoredEdge). y.decimals ≡ 0) l (x ∷ []) so_far.whole (cons whole nil);
    }

  pub first_stored_edges_all : (l : List StoredEdge) → FirstStored point w t rs (length w) l → map (edge_of w t) l ≡ char_edges rs 0 w
  first_stored_edges_all l h = h.edges ∙ rw take-length
