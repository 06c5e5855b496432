-- The passes go alike on lists whose edges are alike: one by one the same edge n places further on, but for orig_txt, which is related by `Text~`. That relation is one
-- under which texts in a row stay related, and a gap's text is related to a gap's alone.
-- In order: tests; the rules and the joined edges; a pass; passes in turn; the first edge above TOP.
use Prim.Native.Nat.{ℕ, suc, ◌+◌}
use mathlib.Core.Path.{◌≡◌, refl, ap}
use mathlib.Core.Bool.{Bool, true, false, ◌||◌, cond}
use mathlib.Core.List.{List, [], ◌∷◌, ◌++◌}
use mathlib.Core.Option.{none, some, map}
use native.Mathlib.Omega.{arith}
use lib.Dec.{eqb}
use borrow.Author.Tests.{eq-eqb, ne_eqb, eqb-true, eqb-false}
use Rattle.table.specs.Table.{Text}
use Rattle.text.specs.Bytes.{same}
use Rattle.text.specs.Sequence.{encode}
use Rattle.passes.specs.NumEdge.{NumEdge, above, first_above}
use Rattle.passes.specs.Passes.{Pass, D1, G1, G2, G3, G4, Chain, gap, nearest, begin, longer, touches, one_place, digit_edge, rule, d1_rule, g1_rule, g2_rule, g3_rule, g4_rule, retags, counted_value, counted_base, over, over_digits, joins, joined, next, chains_of, joined_of, after, added, through, added_by}
use Rattle.passes.specs.Moved.{moved, with_text}
use Rattle.passes.proofs.ChainsAlike.{Paired, Both, paired_append, paired_map, chains_alike}

-- the text of a gap
abbrev pub gap_text : Text → Bool
gap_text x = same x (encode 0x96F6) || same x (encode 0x3007)

-- ---- tests

eqb_iff : (a b c d : ℕ) → (a ≡ b → c ≡ d) → (c ≡ d → a ≡ b) → eqb a b ≡ eqb c d
eqb_iff a b c d f g = go (eqb c d) refl
  where
    go : (t : Bool) → eqb c d ≡ t → eqb a b ≡ t
    go true e = eq-eqb a b (g (eqb-true c d e))
    go false e = ne_eqb a b (λ h. eqb-false c d e (f h))

map_cond : {A B : Type 0} (f : A → B) (t : Bool) (a : A) → map f (cond t (some a) none) ≡ cond t (some (f a)) none
map_cond f true a = refl
map_cond f false a = refl

-- ---- an edge and a chain n places further on, over other characters
module _ (n : ℕ) where
  abbrev twin : Text → NumEdge → NumEdge
  twin x e = with_text x (moved n e)

  abbrev twin_chain : Text → Chain → Chain
  twin_chain x c = record { edge = twin x c.edge; more = c.more; near = c.near }

  one_place_lem : (x : Text) (e : NumEdge) → one_place (twin x e) ≡ one_place e
  one_place_lem x e = eqb_iff (n + e.end) (suc (n + e.start)) e.end (suc e.start) (λ h. omega arith) (λ h. omega arith)

  touches_twin : (x y : Text) (c : Chain) (e : NumEdge) → touches (twin_chain x c) (twin y e) ≡ touches c e
  touches_twin x y c e = eqb_iff (n + c.edge.end) (n + e.start) c.edge.end e.start (λ h. omega arith) (λ h. omega arith)

  digit_edge_lem : (x : Text) (e : NumEdge) → digit_edge (twin x e) ≡ digit_edge e
  unfolding digit_edge
  digit_edge_lem x e = rw (one_place_lem x e)

  retags_twin : (x y : Text) (l e : NumEdge) → retags (twin x l) (twin y e) ≡ retags l e
  unfolding retags
  retags_twin x y l e = rw (one_place_lem y e)

  counted_value_lem : (x y : Text) (l e : NumEdge) → counted_value (twin x l) (twin y e) ≡ counted_value l e
  unfolding counted_value
  counted_value_lem x y l e = rw (retags_twin x y l e)

  counted_base_lem : (x y : Text) (l e : NumEdge) → counted_base (twin x l) (twin y e) ≡ counted_base l e
  unfolding counted_base
  counted_base_lem x y l e = rw (retags_twin x y l e)

  rule_twin : (p : Pass) (x y : Text) (c : Chain) (e : NumEdge) → gap_text y ≡ gap_text e.orig_txt → rule p (twin_chain x c) (twin y e) ≡ rule p c e
  unfolding d1_rule g1_rule g2_rule g3_rule g4_rule gap
  rule_twin D1 x y c e g = rw (digit_edge_lem x c.edge, digit_edge_lem y e)
  rule_twin G1 x y c e g = refl
  rule_twin G2 x y c e g = rw g
  rule_twin G3 x y c e g = refl
  rule_twin G4 x y c e g = rw (counted_value_lem x y c.edge e, counted_base_lem x y c.edge e)

  joined_twin : (p : Pass) (x y : Text) (l r : NumEdge) → joined p (twin x l) (twin y r) ≡ twin (x ++ y) (joined p l r)
  unfolding joined over over_digits
  joined_twin D1 x y l r = refl
  joined_twin G1 x y l r = refl
  joined_twin G2 x y l r = refl
  joined_twin G3 x y l r = refl
  joined_twin G4 x y l r = rw (counted_value_lem x y l r, counted_base_lem x y l r)

  next_twin : (p : Pass) (x y : Text) (c : Chain) (e : NumEdge) → gap_text y ≡ gap_text e.orig_txt
      → next p (twin_chain x c) (twin y e) ≡ map (twin_chain (x ++ y)) (next p c e)
  unfolding next longer nearest gap
  next_twin p x y c e g = simp (touches_twin x y c e, rule_twin p x y c e g, joined_twin p x y c.edge e, g, map_cond)

joined_text : (p : Pass) (l r : NumEdge) → (joined p l r).orig_txt ≡ l.orig_txt ++ r.orig_txt
unfolding joined over over_digits
joined_text D1 l r = refl
joined_text G1 l r = refl
joined_text G2 l r = refl
joined_text G3 l r = refl
joined_text G4 l r = refl

-- ---- lists that are alike
module _ (n : ℕ) (Text~ : Text → Text → Type 0) where
  abbrev pub Alike : NumEdge → NumEdge → Type 0
  Alike e e' = (x : Text) × Text~ e.orig_txt x × (e' ≡ with_text x (moved n e))

  abbrev AlikeChain : Chain → Chain → Type 0
  AlikeChain c c' = (x : Text) × Text~ c.edge.orig_txt x × (c' ≡ twin_chain n x c)

  both_cond : (t : Bool) (c : Chain) (x : Text) → AlikeChain c (twin_chain n x c) → Both AlikeChain (cond t (some c) none) (map (twin_chain n x) (cond t (some c) none))
  both_cond true c x h = h
  both_cond false c x h = tt

  joined_of_alike : (cs cs' : List Chain) → Paired AlikeChain cs cs' → Paired Alike (joined_of cs) (joined_of cs')
  unfolding joined_of
  joined_of_alike [] [] h = tt
  joined_of_alike [] (c' ∷ cs') h = absurd h
  joined_of_alike (c ∷ cs) [] h = absurd h
  joined_of_alike (c ∷ cs) (c' ∷ cs') ((x, o, e), h) = go c.more c'.more (ap (λ (d : Chain). d.more) e) (joined_of_alike cs cs' h)
    where
      go : (m m' : Bool) → m' ≡ m → Paired Alike (joined_of cs) (joined_of cs') → Paired Alike (cond m (c.edge ∷ joined_of cs) (joined_of cs)) (cond m' (c'.edge ∷ joined_of cs') (joined_of cs'))
      go true m' q ih = rw q ((x, o, ap (λ (d : Chain). d.edge) e), ih)
      go false m' q ih = rw q ih

  -- the first edge above TOP is the same, n places further on
  pub first_above_alike : (l l' : List NumEdge) → Paired Alike l l' → first_above l' ≡ map (λ i. n + i) (first_above l)
  unfolding first_above
  first_above_alike [] [] h = refl
  first_above_alike [] (e' ∷ l') h = absurd h
  first_above_alike (e ∷ l) [] h = absurd h
  first_above_alike (e ∷ l) (e' ∷ l') ((x, o, q), h) = rw (q, first_above_alike l l' h) (go (above e))
    where
      go : (t : Bool) → cond t (some (n + e.start)) (map (λ i. n + i) (first_above l)) ≡ map (λ i. n + i) (cond t (some e.start) (first_above l))
      go true = refl
      go false = refl

  module _ (in_a_row : (a a' b b' : Text) → Text~ a a' → Text~ b b' → Text~ (a ++ b) (a' ++ b')) (gaps : (a a' : Text) → Text~ a a' → gap_text a' ≡ gap_text a) where
    begin_alike : (e e' : NumEdge) → Alike e e' → AlikeChain (begin e) (begin e')
    unfolding begin nearest gap
    begin_alike e e' (x, o, h) = (x, o, rw (h, gaps e.orig_txt x o))

    next_alike : (p : Pass) (c c' : Chain) (e e' : NumEdge) → AlikeChain c c' → Alike e e' → Both AlikeChain (next p c e) (next p c' e')
    unfolding next longer
    next_alike p c c' e e' (x, o, h) (y, q, k) =
        rw (h, k, next_twin n p x y c e (gaps e.orig_txt y q))
        (both_cond (joins p c e) (longer c e (joined p c.edge e)) (x ++ y)
        (x ++ y, rw (joined_text p c.edge e) (in_a_row c.edge.orig_txt x e.orig_txt y o q), refl))

    chains_of_alike : (p : Pass) (l l' : List NumEdge) → Paired Alike l l' → Paired AlikeChain (chains_of p l) (chains_of p l')
    unfolding chains_of
    chains_of_alike p l l' h = chains_alike begin (next p) begin (next p) Alike AlikeChain begin_alike (next_alike p) l l' h

    pub after_alike : (p : Pass) (l l' : List NumEdge) → Paired Alike l l' → Paired Alike (after p l) (after p l')
    unfolding after
    after_alike p l l' h =
        paired_map AlikeChain Alike (λ c. c.edge) (λ c. c.edge) (λ c c' (x, o, e). (x, o, ap (λ (d : Chain). d.edge) e)) (chains_of p l) (chains_of p l') (chains_of_alike p l l' h)

    pub added_alike : (p : Pass) (l l' : List NumEdge) → Paired Alike l l' → Paired Alike (added p l) (added p l')
    unfolding added
    added_alike p l l' h = joined_of_alike (chains_of p l) (chains_of p l') (chains_of_alike p l l' h)

    -- ---- passes in turn
    pub through_alike : (ps : List Pass) (l l' : List NumEdge) → Paired Alike l l' → Paired Alike (through ps l) (through ps l')
    unfolding through
    through_alike [] l l' h = h
    through_alike (p ∷ ps) l l' h = through_alike ps (after p l) (after p l') (after_alike p l l' h)

    pub added_by_alike : (ps : List Pass) (l l' : List NumEdge) → Paired Alike l l' → Paired Alike (added_by ps l) (added_by ps l')
    unfolding added_by
    added_by_alike [] l l' h = tt
    added_by_alike (p ∷ ps) l l' h =
        paired_append Alike (added p l) (added_by ps (after p l)) (added p l') (added_by ps (after p l'))
        (added_alike p l l' h) (added_by_alike ps (after p l) (after p l') (after_alike p l l' h))
