-- 02, S-13: "For lines without a point the call agrees with the first", and for lines with a point that has a record: the lists after any passes, the edges that
-- they join, and refusal 7.
-- In order: a pass; passes in turn; the points of a line; the theorems.
use Prim.Native.Nat.{ℕ, zero, suc}
use mathlib.Core.Path.{◌≡◌, refl, sym, ap, ◌∙◌}
use mathlib.Core.Bool.{Bool, true, false, ◌&&◌, cond}
use mathlib.Core.List.{List, [], ◌∷◌, map, map-append}
use mathlib.Core.Option
use mathlib.Core.Option.{none, some}
use lib.Dec.{eqb}
use lib.ListN.{get_or}
use Rattle.table.specs.Table.{Table, Record, find, is_none}
use Rattle.passes.specs.NumEdge.{NumEdge, first_above}
use Rattle.passes.specs.Characters.{first_list}
use Rattle.passes.specs.Passes as passes
use Rattle.passes.specs.Passes.{Pass, D1, G1, G2, G3, G4, Chain, longer, touches, d1_rule, joined, five, fifth_list, joined_edges, above_at}
use Rattle.passes.specs.DecimalPasses.{DecimalEdge, whole_edge, whole_chain, begin, next, next_digit, next_later, joins_digit, joins_point, edges_of, chains_of, joined_of, after, added, through, added_by, point_at, point_character, bare_edges, decimal_first_list, decimal_fifth_list, decimal_joined_edges, decimal_above_at}
use Rattle.passes.proofs.ChainsLaws.{chains_map}
use Rattle.passes.proofs.ChainsAlike.{Each}

map_cond : {A B : Type 0} (f : A → B) (t : Bool) (a : A) → cond t (some (f a)) none ≡ Option.map f (cond t (some a) none)
map_cond f true a = refl
map_cond f false a = refl

-- ---- a pass
module _ (point : ℕ → Bool) (no-point : (p : ℕ) → point p ≡ false) where
  next_whole : (p : Pass) (c : Chain) (e : NumEdge) → next point p (whole_chain c) (whole_edge e) ≡ Option.map whole_chain (passes.next p c e)
  unfolding next next_digit next_later joins_digit joins_point passes.next
  next_whole D1 c e = rw (no-point c.edge.end) (map_cond whole_chain (touches c e && d1_rule c e) (longer c e (joined D1 c.edge e)))
  next_whole G1 c e = refl
  next_whole G2 c e = refl
  next_whole G3 c e = refl
  next_whole G4 c e = refl

  chains_whole : (p : Pass) (l : List NumEdge) → chains_of point p (map whole_edge l) ≡ map whole_chain (passes.chains_of p l)
  unfolding chains_of passes.chains_of begin
  chains_whole p l = chains_map passes.begin (passes.next p) begin (next point p) whole_edge whole_chain (λ e. refl) (next_whole p) l

  edges_whole : (cs : List Chain) → edges_of (map whole_chain cs) ≡ map whole_edge (passes.edges_of cs)
  edges_whole [] = refl
  edges_whole (c ∷ cs) = ap {B = List DecimalEdge} (λ r. whole_edge c.edge ∷ r) (edges_whole cs)

  joined_whole : (cs : List Chain) → joined_of (map whole_chain cs) ≡ map whole_edge (passes.joined_of cs)
  unfolding joined_of passes.joined_of
  joined_whole [] = refl
  joined_whole (c ∷ cs) = rw (joined_whole cs) (go c.more)
    where
      go : (t : Bool) → cond t (whole_edge c.edge ∷ map whole_edge (passes.joined_of cs)) (map whole_edge (passes.joined_of cs)) ≡ map whole_edge (cond t (c.edge ∷ passes.joined_of cs) (passes.joined_of cs))
      go true = refl
      go false = refl

  pub after_whole : (p : Pass) (l : List NumEdge) → after point p (map whole_edge l) ≡ map whole_edge (passes.after p l)
  unfolding after passes.after
  after_whole p l = ap edges_of (chains_whole p l) ∙ edges_whole (passes.chains_of p l)

  pub added_whole : (p : Pass) (l : List NumEdge) → added point p (map whole_edge l) ≡ map whole_edge (passes.added p l)
  unfolding added passes.added
  added_whole p l = ap joined_of (chains_whole p l) ∙ joined_whole (passes.chains_of p l)

  -- ---- passes in turn
  pub through_whole : (ps : List Pass) (l : List NumEdge) → through point ps (map whole_edge l) ≡ map whole_edge (passes.through ps l)
  unfolding through passes.through
  through_whole [] l = refl
  through_whole (p ∷ ps) l = ap (through point ps) (after_whole p l) ∙ through_whole ps (passes.after p l)

  pub added_by_whole : (ps : List Pass) (l : List NumEdge) → added_by point ps (map whole_edge l) ≡ map whole_edge (passes.added_by ps l)
  unfolding added_by passes.added_by
  added_by_whole [] l = refl
  added_by_whole (p ∷ ps) l =
      rw (added_whole p l, after_whole p l, added_by_whole ps (passes.after p l)) (sym (map-append whole_edge (passes.added p l) (passes.added_by ps (passes.after p l))))

-- ---- the points of a line
unfolds_point : (b : Bool) (w : List ℕ) → Each (λ c. eqb c point_character ≡ false) w → (p : ℕ) → (b && eqb (get_or w p 0) point_character) ≡ false
unfolds_point false w h p = refl
unfolds_point true w h p = go w p h
  where
    go : (w : List ℕ) (p : ℕ) → Each (λ c. eqb c point_character ≡ false) w → eqb (get_or w p 0) point_character ≡ false
    go [] p h = refl
    go (c ∷ w) zero h = h.0
    go (c ∷ w) (suc p) h = go w p h.1

pub bare_whole : (l : List NumEdge) → bare_edges (map whole_edge l) ≡ l
bare_whole [] = refl
bare_whole (e ∷ l) = ap {B = List NumEdge} (λ r. e ∷ r) (bare_whole l)

module _ (t : Table) (w : List ℕ) where
  -- no place of the line holds a point without a record
  abbrev pub NoPoint : Type 0
  NoPoint = (p : ℕ) → point_at t w p ≡ false

  -- "lines without a point"
  pub without_point : Each (λ c. eqb c point_character ≡ false) w → NoPoint
  unfolding point_at
  without_point h p = unfolds_point (is_none (find t.records point_character)) w h p

  -- "where that has no record"
  pub with_record : (r : Record) → find t.records point_character ≡ some r → NoPoint
  unfolding point_at
  with_record r e p = rw e

  -- ---- the theorems: each list, the joined edges, and refusal 7 are those of the first call
  pub list_agrees : NoPoint → (ps : List Pass) → through (point_at t w) ps (decimal_first_list t w) ≡ map whole_edge (passes.through ps (first_list t w))
  list_agrees h ps = through_whole (point_at t w) h ps (first_list t w)

  pub fifth_agrees : NoPoint → decimal_fifth_list t w ≡ map whole_edge (fifth_list t w)
  fifth_agrees h = list_agrees h five

  pub joined_agrees : NoPoint → decimal_joined_edges t w ≡ map whole_edge (joined_edges t w)
  joined_agrees h = added_by_whole (point_at t w) h five (first_list t w)

  pub above_agrees : NoPoint → decimal_above_at t w ≡ above_at t w
  above_agrees h = ap (λ (es : List DecimalEdge). first_above (bare_edges es)) (joined_agrees h) ∙ ap first_above (bare_whole (joined_edges t w))
