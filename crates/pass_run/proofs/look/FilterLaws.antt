-- Laws of the tests before an edge is read (`pass_list`, specs/StoredPass.antt): what holds wherever a pass joins. No contract cites this file.
-- In order: rows of tests; what a rule needs; a chain and the next edge; two edges by their fields in the list; two that don't touch. Assumes nothing.
use mathlib.Core.Path.{◌≡◌, refl, sym, ◌∙◌, subst}
use mathlib.Core.Logic.{◌⊎◌, inl, inr}
use mathlib.Core.Bool.{Bool, true, false, ◌&&◌, ◌||◌, not, cond}
use mathlib.Core.List.{List}
use mathlib.Core.Option.{none}
use Prim.Native.Nat.{ℕ, ◌+◌}
use native.Mathlib.Omega.{arith}
use lib.Dec.{leb, ltb, eqb}
use borrow.Author.Tests.{ltb-true, ne_eqb}
use Rattle.text.proofs.RowLaws.{and-true, or-true}
use Rattle.fields.specs.Fields.{le_at}
use Rattle.passes.specs.Passes.{Pass, D1, G1, G2, G3, G4, power_of_ten}
use Rattle.pass_list.specs.StoredEdge.{StoredEdge}
use Rattle.pass_list.specs.Stored.{stored_at}
use Rattle.pass_list.specs.StoredPass.{StoredChain, begin, touches, over_point, meets, d1_rule, g1_rule, comparable, g2_rule, g3_rule, g4_rule, rule, retaggable, retags, with_numbers, retagged, counted, joins, next}
use Rattle.pass_rules.specs.Chain.{answer}
use Rattle.pass_list.proofs.read.FieldLaws.{fields_at, stored_at-fields}
use Rattle.std.specs.Prelude.{None, Ok}

-- ---- rows of tests
all_three : (a b c : Bool) → (a && b && c) ≡ true → (a ≡ true) × (b ≡ true) × (c ≡ true)
all_three a b c h = let p = and-true (a && b) c h in let q = and-true a b p.0 in (q.0, q.1, p.1)

all_four : (a b c d : Bool) → (a && b && c && d) ≡ true → (a ≡ true) × (b ≡ true) × (c ≡ true) × (d ≡ true)
all_four a b c d h = let p = and-true (a && b && c) d h in let q = all_three a b c p.0 in (q.0, q.1, q.2, p.1)

all_five : (a b c d e : Bool) → (a && b && c && d && e) ≡ true → (a ≡ true) × (b ≡ true) × (c ≡ true) × (d ≡ true) × (e ≡ true)
all_five a b c d e h = let p = and-true (a && b && c && d) e h in let q = all_four a b c d p.0 in (q.0, q.1, q.2, q.3, p.1)

or_left : (a b : Bool) → a ≡ true → (a || b) ≡ true
or_left a b h = rw h

or_right : (a b : Bool) → b ≡ true → (a || b) ≡ true
or_right true b h = refl
or_right false b h = h

-- ---- what a rule needs of the chain c and the next edge y
module _ (c : StoredChain) (y : StoredEdge) where
  g1_needs : g1_rule c y ≡ true → (not c.more && (eqb c.edge.base 1 && ltb 1 y.base && not y.large_power)) ≡ true
  unfolding g1_rule
  g1_needs h = let t = all_five (not c.more) (eqb c.edge.base 1) (leb 1 c.edge.value) (ltb 1 y.base) (not y.large_power) h in rw (t.0, t.1, t.3, t.4)

  g2_needs : g2_rule c y ≡ true → (not c.edge.large_power && (ltb y.base c.near || y.gap)) ≡ true
  unfolding g2_rule
  g2_needs h =
      let t = all_four c.edge.has_value (not c.edge.large_power) (not y.large_power) _ h in
      rw t.1 (go (comparable c y) (ltb y.value c.near) t.3)
    where
      go : (a b : Bool) → ((a && (b && ltb y.base c.near)) || (not a && y.gap)) ≡ true → (ltb y.base c.near || y.gap) ≡ true
      go true true h = either (or-true (ltb y.base c.near) false h)
        where
          either : (ltb y.base c.near ≡ true) ⊎ (false ≡ true) → (ltb y.base c.near || y.gap) ≡ true
          either (inl k) = or_left _ _ k
          either (inr k) = absurd (let z : ◌≡◌ {A = ℕ} 0 1 = cc in omega arith)
      go true false h = absurd (let z : ◌≡◌ {A = ℕ} 0 1 = cc in omega arith)
      go false b h = or_right (ltb y.base c.near) y.gap h

  -- of a chain: the base that the next is held against is there
  near_needs : g2_rule c y ≡ true → ((c.has_near && ltb y.base c.near) || y.gap) ≡ true
  unfolding g2_rule
  near_needs h = go (comparable c y) (ltb y.value c.near) refl (all_four c.edge.has_value (not c.edge.large_power) (not y.large_power) _ h).3
    where
      go : (a b : Bool) → comparable c y ≡ a → ((a && (b && ltb y.base c.near)) || (not a && y.gap)) ≡ true → ((c.has_near && ltb y.base c.near) || y.gap) ≡ true
      go true true e h = rw (all_three c.has_near y.has_value y.has_base e).0 (either (or-true (ltb y.base c.near) false h))
        where
          either : (ltb y.base c.near ≡ true) ⊎ (false ≡ true) → (ltb y.base c.near || y.gap) ≡ true
          either (inl k) = or_left _ _ k
          either (inr k) = absurd (let z : ◌≡◌ {A = ℕ} 0 1 = cc in omega arith)
      go true false e h = absurd (let z : ◌≡◌ {A = ℕ} 0 1 = cc in omega arith)
      go false b e h = or_right (c.has_near && ltb y.base c.near) y.gap h

  g3_needs : g3_rule c y ≡ true → (not c.more && (not c.edge.large_power && y.large_power)) ≡ true
  unfolding g3_rule
  g3_needs h = let t = all_five (not c.more) c.edge.has_value (not c.edge.large_power) y.has_value y.large_power h in rw (t.0, t.2, t.4)

  retags_thousand : retags c.edge y ≡ true → leb 1000 c.edge.base ≡ true
  unfolding retags
  retags_thousand t =
      let a = (and-true (retaggable c.edge y) (power_of_ten c.edge.base) t).0 in
      (all_five c.edge.cjk (leb 1000 c.edge.base) (eqb y.end (y.start + 1)) (leb 1 y.value) (leb y.value 9) a).1

  -- the next edge has a lower base, or the last one is at least a thousand
  g4_needs : g4_rule c (counted G4 c.edge y) ≡ true → (leb 1000 c.edge.base || ltb y.base c.edge.base) ≡ true
  unfolding g4_rule counted
  g4_needs h = go (retags c.edge y) refl h
    where
      low : (e : StoredEdge) → (c.edge.has_value && e.has_value && e.has_base && ltb e.value c.edge.base && ltb e.base c.edge.base) ≡ true → ltb e.base c.edge.base ≡ true
      low e k = (and-true (c.edge.has_value && e.has_value && e.has_base && ltb e.value c.edge.base) (ltb e.base c.edge.base) k).1

      go : (b : Bool) → retags c.edge y ≡ b → (c.edge.has_value && (cond b (retagged c.edge y) y).has_value && (cond b (retagged c.edge y) y).has_base && ltb (cond b (retagged c.edge y) y).value c.edge.base && ltb (cond b (retagged c.edge y) y).base c.edge.base) ≡ true
          → (leb 1000 c.edge.base || ltb y.base c.edge.base) ≡ true
      go true t k = or_left _ _ (retags_thousand t)
      go false t k = or_right (leb 1000 c.edge.base) (ltb y.base c.edge.base) (low y k)

-- ---- a chain and the next edge
abbrev pub may_take : Pass → StoredChain → StoredEdge → Bool
may_take D1 c y = (touches c y || c.edge.point) && y.digit
may_take G1 c y = touches c y && not c.more
may_take G2 c y = touches c y && ((c.has_near && ltb y.base c.near) || y.gap)
may_take G3 c y = touches c y && not c.more
may_take G4 c y = touches c y && (leb 1000 c.edge.base || ltb y.base c.edge.base)

abbrev pub may_join : Pass → StoredEdge → StoredEdge → Bool
may_join D1 x y = x.digit && y.digit
may_join G1 x y = eqb x.base 1 && ltb 1 y.base && not y.large_power
may_join G2 x y = not x.large_power && (ltb y.base x.base || y.gap)
may_join G3 x y = not x.large_power && y.large_power
may_join G4 x y = leb 1000 x.base || ltb y.base x.base

joins_both : (p : Pass) (c : StoredChain) (y : StoredEdge) → joins p c y ≡ true → (meets p c y ≡ true) × (rule p c (counted p c.edge y) ≡ true)
unfolding joins
joins_both p c y j = let t = and-true (meets p c y) _ j in (t.0, (and-true (rule p c (counted p c.edge y)) _ t.1).0)

-- D1 goes over a point at the chain's end
met_point : (c : StoredChain) (y : StoredEdge) → meets D1 c y ≡ true → (touches c y ≡ true) ⊎ (c.edge.point ≡ true)
met_point c y h = go (or-true (touches c y && ltb c.edge.decimals 15) (over_point c y) h)
  where
    go : ((touches c y && ltb c.edge.decimals 15) ≡ true) ⊎ (over_point c y ≡ true) → (touches c y ≡ true) ⊎ (c.edge.point ≡ true)
    go (inl k) = inl (and-true (touches c y) (ltb c.edge.decimals 15) k).0
    go (inr k) = inr (and-true c.edge.point _ k).0

may_take_lem : (p : Pass) (c : StoredChain) (y : StoredEdge) → meets p c y ≡ true → rule p c (counted p c.edge y) ≡ true → may_take p c y ≡ true
unfolding d1_rule counted with_numbers
may_take_lem D1 c y m h = rw ((and-true (c.more || c.edge.digit) y.digit h).1, either (met_point c y m))
  where
    either : (touches c y ≡ true) ⊎ (c.edge.point ≡ true) → (touches c y || c.edge.point) ≡ true
    either (inl k) = or_left (touches c y) c.edge.point k
    either (inr k) = or_right (touches c y) c.edge.point k
may_take_lem G1 c y m h = rw (m, (and-true (not c.more) _ (g1_needs c y h)).0)
may_take_lem G2 c y m h = rw m (near_needs c y h)
may_take_lem G3 c y m h = rw (m, (and-true (not c.more) _ (g3_needs c y h)).0)
may_take_lem G4 c y m h = rw m (g4_needs c y h)

may_join_lem : (p : Pass) (x y : StoredEdge) → rule p (begin x) (counted p (begin x).edge y) ≡ true → may_join p x y ≡ true
unfolding d1_rule counted with_numbers begin
may_join_lem D1 x y h = h
may_join_lem G1 x y h = g1_needs (begin x) y h
may_join_lem G2 x y h = go x.gap (g2_needs (begin x) y h)
  where
    go : (g : Bool) → (not x.large_power && (ltb y.base (cond g 0 x.base) || y.gap)) ≡ true → (not x.large_power && (ltb y.base x.base || y.gap)) ≡ true
    go true h = let t = and-true (not x.large_power) (ltb y.base 0 || y.gap) h in rw t.0 (either (or-true (ltb y.base 0) y.gap t.1))
      where
        either : (ltb y.base 0 ≡ true) ⊎ (y.gap ≡ true) → (ltb y.base x.base || y.gap) ≡ true
        either (inl k) = absurd (omega (arith, ltb-true y.base 0 k))
        either (inr k) = or_right (ltb y.base x.base) y.gap k
    go false h = h
may_join_lem G3 x y h = g3_needs (begin x) y h
may_join_lem G4 x y h = g4_needs (begin x) y h

-- ---- by the fields in the list
module _ (s : List ℕ) (a b : ℕ) (p : Pass) (j : joins p (begin (stored_at s a)) (stored_at s b) ≡ true) where
  both : joins p (begin (fields_at s a)) (fields_at s b) ≡ true
  both = subst (λ (x : StoredEdge). joins p (begin x) (fields_at s b) ≡ true) (stored_at-fields s a) (subst (λ (y : StoredEdge). joins p (begin (stored_at s a)) y ≡ true) (stored_at-fields s b) j)

  pub join_may : may_join p (fields_at s a) (fields_at s b) ≡ true
  join_may = may_join_lem p (fields_at s a) (fields_at s b) (joins_both p (begin (fields_at s a)) (fields_at s b) both).1

module _ (s : List ℕ) (at : ℕ) (p : Pass) (c : StoredChain) (j : joins p c (stored_at s at) ≡ true) where
  field : joins p c (fields_at s at) ≡ true
  field = subst (λ (y : StoredEdge). joins p c y ≡ true) (stored_at-fields s at) j

  pub take_may : may_take p c (fields_at s at) ≡ true
  take_may = let t = joins_both p c (fields_at s at) field in may_take_lem p c (fields_at s at) t.0 t.1

-- ---- where they don't touch
pub apart_fields : (s : List ℕ) (a b : ℕ) → (le_at s (a + 2) 2 ≡ le_at s b 2 → ⊥) → touches (begin (stored_at s a)) (stored_at s b) ≡ false
unfolding begin
apart_fields s a b h = rw (stored_at-fields s a, stored_at-fields s b) (ne_eqb _ _ h)

-- D1 alone joins there, where the mark says that a point stands there
module _ (s : List ℕ) (a : ℕ) (y : StoredEdge) (apart : touches (begin (stored_at s a)) y ≡ false) where
  pub cross_point : joins D1 (begin (stored_at s a)) y ≡ true → (fields_at s a).point ≡ true
  unfolding begin
  cross_point j = subst (λ (x : StoredEdge). x.point ≡ true) (stored_at-fields s a) (go (met_point (begin (stored_at s a)) y (joins_both D1 (begin (stored_at s a)) y j).0))
    where
      go : (touches (begin (stored_at s a)) y ≡ true) ⊎ ((begin (stored_at s a)).edge.point ≡ true) → (stored_at s a).point ≡ true
      go (inl k) = absurd (let z : ◌≡◌ {A = ℕ} 0 1 = cc in omega arith)
      go (inr k) = k

  pub cross_none : (p : Pass) → (meets p (begin (stored_at s a)) y ≡ touches (begin (stored_at s a)) y) → joins p (begin (stored_at s a)) y ≡ true → ⊥
  cross_none p e j = let t = sym (joins_both p (begin (stored_at s a)) y j).0 ∙ e ∙ apart in let z : ◌≡◌ {A = ℕ} 0 1 = cc in omega arith

-- ---- where the test says no
module _ (p : Pass) (c : StoredChain) (y : StoredEdge) {r : Bool} (f : joins p c y ≡ true → r ≡ true) (e : r ≡ false) where
  apart : joins p c y ≡ false
  apart = go (joins p c y) f
    where
      go : (b : Bool) → (b ≡ true → r ≡ true) → b ≡ false
      go true f = absurd (let g = f refl in let z : ◌≡◌ {A = ℕ} 0 1 = cc in omega arith)
      go false f = refl

  pub next_none : next p c y ≡ none
  unfolding next
  next_none = rw apart

  pub answer_ends : (Ok None) ≡ answer p c y
  unfolding answer
  answer_ends = rw apart
