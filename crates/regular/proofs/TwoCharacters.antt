-- The line of three of `proofs/Without.antt` (`unit_base_value`) is shortest: with a unit whose base is above its value and any regular record beside it, the list after the fifth pass
-- and the grammar say the same of each line of two characters.
--     first_rule ps e f   what the passes ps make of two edges that touch: the value of the first that joins them
--     wide r             r lacks of the unit's parts only "base up to the value"
--     two_characters     the law, with any table that has the two
-- In order: two edges; the rules by the fields of two records; the unit beside a unit, a digit, a large power and any other; the law.
-- Assumes nothing.
use Prim.Native.Nat.{ℕ, suc, ◌≤◌, ◌<◌}
use mathlib.Core.Path.{◌≡◌, refl, sym, ap, ◌∙◌}
use mathlib.Core.Bool.{Bool, true, false, cond, ◌&&◌, ◌||◌, not, and-false, false≢true}
use mathlib.Core.List.{List, [], ◌∷◌, map}
use mathlib.Core.Option.{Option, none, some}
use native.Mathlib.Omega.{arith}
use lib.Dec.{leb, ltb, eqb}
use Rattle.text.specs.Bytes.{same}
use Rattle.table.specs.Table.{Record, find}
use Rattle.passes.specs.NumEdge.{NumEdge, or_zero, has}
use Rattle.passes.specs.Characters.{char_edge, char_edges}
use Rattle.passes.specs.Chains.{from, chains}
use Rattle.passes.specs.Passes.{Pass, D1, G1, G2, G3, G4, begin, longer, rule, next, joined, over, over_digits, chains_of, edges_of, after, through, five, digit_type, digit_edge, d1_rule, g1_rule, exceeds, under, is_script, cjk, g2_rule, g3_rule, g4_rule, retags, counted_value, counted_base, nearest, gap}
use Rattle.passes.specs.Renaming.{gap_char}
use Rattle.passes.proofs.ChainsLaws.{from_none, from_some}
use Rattle.table_grammar.proofs.Tests.{le_true, false_lt, and_left, and_right, eqb_self, eqb-false}
use Rattle.table_grammar.specs.Kinds.{exactly, at_most, at_least}
use Rattle.table_grammar.specs.TableGrammar.{high}
use Rattle.table_grammar.proofs.KindLaws.{least, not_le, not-true, gap_char_lem, digit_law, unit_law, large_law}
use Rattle.table_grammar.specs.Grammar.{power}
use Rattle.table_grammar.proofs.Pieces.{joins}
use Rattle.grammar.proofs.Marked.{answer_of}
use Rattle.regular.proofs.Without.{Taken, asDigit, asUnit, asLarge, asOther, entry, of_kind, loose, grammar_says, whole_value, last_says, AgreeAlone}
use Rattle.regular.proofs.Alone.{digit_alone, unit_alone, large_alone, other_alone}

-- ---- two edges that touch
abbrev first_rule : List Pass → NumEdge → NumEdge → Option ℕ
first_rule [] e f = none
first_rule (p ∷ ps) e f = cond (rule p (begin e) f) (joined p e f).value (first_rule ps e f)

through_one : (ps : List Pass) (e : NumEdge) → through ps (e ∷ []) ≡ e ∷ []
unfolding through after chains_of chains from begin
through_one [] e = refl
through_one (p ∷ ps) e = through_one ps e

module _ (e f : NumEdge) (starts : e.start ≡ 0) (touch : e.end ≡ f.start) (ends : f.end ≡ 2) where
  joined_whole : (p : Pass) → whole_value 2 (answer_of (joined p e f ∷ []) none) ≡ (joined p e f).value
  unfolding joined over over_digits
  joined_whole D1 = rw (starts, ends)
  joined_whole G1 = rw (starts, ends)
  joined_whole G2 = rw (starts, ends)
  joined_whole G3 = rw (starts, ends)
  joined_whole G4 = rw (starts, ends)

  step : (p : Pass) (b : Bool) → rule p (begin e) f ≡ b → next p (begin e) f ≡ cond b (some (longer (begin e) f (joined p e f))) none
  unfolding next begin
  step p b h = let t : eqb e.end f.start ≡ true = rw touch (eqb_self f.start) in rw (t, h)

  after_two : (p : Pass) (b : Bool) → rule p (begin e) f ≡ b → after p (e ∷ f ∷ []) ≡ cond b (joined p e f ∷ []) (e ∷ f ∷ [])
  unfolding after chains_of chains from begin longer
  after_two p true h = ap edges_of (from_some begin (next p) (begin e) (longer (begin e) f (joined p e f)) f [] (step p true h))
  after_two p false h = ap edges_of (from_none begin (next p) (begin e) f [] (step p false h))

  through_two : (ps : List Pass) → whole_value 2 (answer_of (through ps (e ∷ f ∷ [])) none) ≡ first_rule ps e f
  unfolding through
  through_two [] = refl
  through_two (p ∷ ps) = go (rule p (begin e) f) refl (through_two ps)
    where
      go : (b : Bool) → rule p (begin e) f ≡ b → whole_value 2 (answer_of (through ps (e ∷ f ∷ [])) none) ≡ first_rule ps e f
          → whole_value 2 (answer_of (through ps (after p (e ∷ f ∷ []))) none) ≡ cond b (joined p e f).value (first_rule ps e f)
      go true h ih = ap (λ l. whole_value 2 (answer_of (through ps l) none)) (after_two p true h) ∙ ap (λ l. whole_value 2 (answer_of l none)) (through_one ps (joined p e f)) ∙ joined_whole p
      go false h ih = ap (λ l. whole_value 2 (answer_of (through ps l) none)) (after_two p false h) ∙ ih

-- what the passes make of the records r and q in a row
abbrev pair_says : Record → Record → Option ℕ
pair_says r q = first_rule five (char_edge 0 r.code_point r) (char_edge 1 q.code_point q)

pair_says_lem : (ts : List Taken) (x y : Taken) → find (map entry ts) (entry x).code_point ≡ some (entry x) → find (map entry ts) (entry y).code_point ≡ some (entry y)
    → whole_value 2 (last_says ts (x ∷ y ∷ [])) ≡ pair_says (entry x) (entry y)
unfolding char_edges char_edge
pair_says_lem ts x y h k = rw (h, k) (through_two (char_edge 0 (entry x).code_point (entry x)) (char_edge 1 (entry y).code_point (entry y)) refl refl refl five)

-- ---- the rules, by the fields of the two records
module _ (r q : Record) where
  abbrev E : NumEdge
  E = char_edge 0 r.code_point r

  abbrev F : NumEdge
  F = char_edge 1 q.code_point q

  not_digit : (i : ℕ) (x : Record) → at_most 9 x.value ≡ false → digit_edge (char_edge i x.code_point x) ≡ false
  unfolding digit_edge char_edge
  not_digit i x h = go x.value h
    where
      go : (v : Option ℕ) → at_most 9 v ≡ false → same x.type digit_type && eqb (suc i) (suc i) && has v && leb (or_zero v) 9 ≡ false
      go none h = rw (and-false (same x.type digit_type && eqb (suc i) (suc i)))
      go (some v) h = rw h (and-false (same x.type digit_type && eqb (suc i) (suc i) && true))

  d1_left : at_most 9 r.value ≡ false → d1_rule (begin E) F ≡ false
  unfolding d1_rule begin
  d1_left h = rw (not_digit 0 r h)

  d1_right : at_most 9 q.value ≡ false → d1_rule (begin E) F ≡ false
  unfolding d1_rule begin
  d1_right h = rw (not_digit 1 q h, and-false (digit_edge E))

  g1_is : g1_rule (begin E) F ≡ eqb (or_zero r.base) 1 && leb 1 (or_zero r.value) && ltb 1 (or_zero q.base) && not q.large_power
  unfolding g1_rule begin char_edge
  g1_is = refl

  g2_is : g2_rule (begin E) F ≡ has r.value && not r.large_power && not q.large_power && exceeds (cond (gap_char r.code_point) none (some (or_zero r.base))) q.value q.base (gap_char q.code_point)
  unfolding g2_rule begin nearest gap char_edge
  g2_is = rw (gap_char_lem r.code_point, gap_char_lem q.code_point)

  g3_is : g3_rule (begin E) F ≡ has r.value && not r.large_power && has q.value && q.large_power
  unfolding g3_rule begin char_edge
  g3_is = refl

  -- nothing counts after a base below 1000, or that is no digit from 1 to 9
  g4_is : retags E F ≡ false → g4_rule (begin E) F ≡ has r.value && under (or_zero r.base) q.value q.base
  unfolding g4_rule begin counted_value counted_base char_edge
  g4_is h = rw h

  no_retag : (b : ℕ) → r.base ≡ some b → b < 1000 → retags E F ≡ false
  unfolding retags char_edge
  no_retag b h k = rw (h, not_le 1000 b k, and-false (is_script r.script cjk))

  none_retagged : leb 1 (or_zero q.value) && leb (or_zero q.value) 9 ≡ false → retags E F ≡ false
  unfolding retags char_edge
  none_retagged h = go (high r) (leb 1 (or_zero q.value)) (leb (or_zero q.value) 9) h
    where
      go : (a b c : Bool) → b && c ≡ false → a && true && b && c ≡ false
      go true b c h = h
      go false b c h = refl

-- ---- a unit of value v and base b, which may be above v
record Unit' (r : Record) (v b : ℕ) : Type 0 where
  value : r.value ≡ some v
  base : r.base ≡ some b
  tens : 10 ≤ v
  two : 2 ≤ b
  large : r.large_power ≡ false
  no_gap : gap_char r.code_point ≡ false

not_nine : {r : Record} {v b : ℕ} → Unit' r v b → at_most 9 r.value ≡ false
not_nine {v = v} R = rw R.value (not_le v 9 R.tens)

-- two units
units : (r q : Record) (v b w c : ℕ) → Unit' r v b → Unit' q w c → pair_says r q ≡ grammar_says (asUnit r ∷ asUnit q ∷ [])
unfolding joined over char_edge chains from
units r q v b w c R Q = go (ltb w b && ltb c b) refl
  where
    d1 : d1_rule (begin (E r q)) (F r q) ≡ false
    d1 = d1_left r q (not_nine R)

    g1 : g1_rule (begin (E r q)) (F r q) ≡ false
    g1 = g1_is r q ∙ rw (R.base, eqb-false b 1 (λ h. omega (arith, R.two)))

    g2 : g2_rule (begin (E r q)) (F r q) ≡ ltb w b && ltb c b
    g2 = g2_is r q ∙ rw (R.value, R.large, Q.large, R.no_gap, Q.value, Q.base, R.base)

    g3 : g3_rule (begin (E r q)) (F r q) ≡ false
    g3 = g3_is r q ∙ rw (R.value, R.large, Q.value, Q.large)

    g4 : g4_rule (begin (E r q)) (F r q) ≡ ltb w b && ltb c b
    g4 = g4_is r q (none_retagged r q (rw (Q.value, not_le w 9 Q.tens) (and-false (leb 1 w)))) ∙ rw (R.value, R.base, Q.value, Q.base)

    go : (t : Bool) → ltb w b && ltb c b ≡ t → pair_says r q ≡ grammar_says (asUnit r ∷ asUnit q ∷ [])
    go true h = rw (d1, g1, g2, R.value, Q.value, R.base, Q.base, h, from)
    go false h = rw (d1, g1, g2, g3, g4, R.value, Q.value, R.base, Q.base, h, from)

-- a digit d, with and before the unit
record Digit' (q : Record) (d : ℕ) : Type 0 where
  value : q.value ≡ some d
  base : q.base ≡ some 1
  nine : d ≤ 9
  large : q.large_power ≡ false

module _ (r q : Record) (v b d : ℕ) (R : Unit' r v b) (D : Digit' q d) (ten : 10 ≤ b) where
  not_one : eqb b 1 ≡ false
  not_one = eqb-false b 1 (λ h. omega (arith, R.two))

  below : ltb d b ≡ true
  below = le_true {m = suc d} {n = b} (omega (arith, D.nine, ten))

  two_below : ltb 1 b ≡ true
  two_below = le_true R.two

  g1_unit : g1_rule (begin (E r q)) (F r q) ≡ false
  g1_unit = g1_is r q ∙ rw (R.base, not_one)

  g2_unit : g2_rule (begin (E r q)) (F r q) ≡ true
  g2_unit = g2_is r q ∙ rw (R.value, R.large, D.large, R.no_gap, D.value, D.base, R.base, below, two_below)

  unit_digit_lem : pair_says r q ≡ grammar_says (asUnit r ∷ asDigit q ∷ [])
  unfolding joined over char_edge chains from
  unit_digit_lem = rw (d1_left r q (not_nine R), g1_unit, g2_unit, R.value, R.base, D.value, below, two_below, from)

  above : ltb v 1 ≡ false
  above = not_le (suc v) 1 (omega (arith, R.tens))

  g1_digit : g1_rule (begin (E q r)) (F q r) ≡ leb 1 d
  g1_digit = g1_is q r ∙ rw (D.base, D.value, R.base, R.large, two_below) (and-true (leb 1 d))
    where
      and-true : (t : Bool) → t && true && true ≡ t
      and-true true = refl
      and-true false = refl

  g2_digit : g2_rule (begin (E q r)) (F q r) ≡ false
  g2_digit = g2_is q r ∙ rw (D.value, D.large, R.large, R.value, R.base, R.no_gap, D.base) (go (gap_char q.code_point))
    where
      go : (g : Bool) → exceeds (cond g none (some 1)) (some v) (some b) false ≡ false
      go true = refl
      go false = rw above

  g3_digit : g3_rule (begin (E q r)) (F q r) ≡ false
  g3_digit = g3_is q r ∙ rw (D.value, D.large, R.value, R.large)

  g4_digit : g4_rule (begin (E q r)) (F q r) ≡ false
  g4_digit = g4_is q r (no_retag q r 1 D.base (omega arith)) ∙ rw (D.value, D.base, R.value, R.base, above)

  -- the grammar's test of the unit behind the digit alone
  no_small : joins loose (cond (gap_char q.code_point) none (some 1)) (power r) ≡ false
  no_small = go (gap_char q.code_point)
    where
      go : (g : Bool) → joins loose (cond g none (some 1)) (power r) ≡ false
      go true = refl
      go false = rw (R.value, above)

  digit_unit : pair_says q r ≡ grammar_says (asDigit q ∷ asUnit r ∷ [])
  unfolding joined over char_edge chains from
  digit_unit = go (leb 1 d) refl
    where
      go : (t : Bool) → leb 1 d ≡ t → pair_says q r ≡ grammar_says (asDigit q ∷ asUnit r ∷ [])
      go true h = rw (d1_right q r (not_nine R), g1_digit, D.value, R.value, h, from)
      go false h = rw (d1_right q r (not_nine R), g1_digit, g2_digit, g3_digit, g4_digit, D.value, h, from, no_small, from)

-- a large power w of base c, with and before the unit
record Large' (q : Record) (w c : ℕ) : Type 0 where
  value : q.value ≡ some w
  base : q.base ≡ some c
  tens : 10 ≤ w
  two : 2 ≤ c
  large : q.large_power ≡ true

module _ (r q : Record) (v b w c : ℕ) (R : Unit' r v b) (L : Large' q w c) where
  unit_large : pair_says r q ≡ grammar_says (asUnit r ∷ asLarge q ∷ [])
  unfolding joined over char_edge chains from
  unit_large = rw (d1_left r q (not_nine R), g1, g2, g3, R.value, L.value)
    where
      g1 : g1_rule (begin (E r q)) (F r q) ≡ false
      g1 = g1_is r q ∙ rw (R.base, eqb-false b 1 (λ h. omega (arith, R.two)))

      g2 : g2_rule (begin (E r q)) (F r q) ≡ false
      g2 = g2_is r q ∙ rw (R.value, R.large, L.large)

      g3 : g3_rule (begin (E r q)) (F r q) ≡ true
      g3 = g3_is r q ∙ rw (R.value, R.large, L.value, L.large)

  large_unit : pair_says q r ≡ grammar_says (asLarge q ∷ asUnit r ∷ [])
  unfolding joined over char_edge counted_value chains from
  large_unit = go (ltb v c && ltb b c) refl
    where
      g1 : g1_rule (begin (E q r)) (F q r) ≡ false
      g1 = g1_is q r ∙ rw (L.base, eqb-false c 1 (λ h. omega (arith, L.two)))

      g2 : g2_rule (begin (E q r)) (F q r) ≡ false
      g2 = g2_is q r ∙ rw (L.value, L.large)

      g3 : g3_rule (begin (E q r)) (F q r) ≡ false
      g3 = g3_is q r ∙ rw (L.value, L.large)

      no_count : retags (E q r) (F q r) ≡ false
      no_count = none_retagged q r (rw (R.value, not_le v 9 R.tens) (and-false (leb 1 v)))

      g4 : g4_rule (begin (E q r)) (F q r) ≡ ltb v c && ltb b c
      g4 = g4_is q r no_count ∙ rw (L.value, L.base, R.value, R.base)

      go : (t : Bool) → ltb v c && ltb b c ≡ t → pair_says q r ≡ grammar_says (asLarge q ∷ asUnit r ∷ [])
      go true h = rw (d1_right q r (not_nine R), g1, g2, g3, g4, no_count, and-false (high q), L.value, R.value, L.base, R.base, h)
      go false h = rw (d1_right q r (not_nine R), g1, g2, g3, g4, and-false (high q), L.value, R.value, L.base, R.base, h)

-- any other, with and before the unit
module _ (r q : Record) (v b : ℕ) (R : Unit' r v b) (empty : q.value ≡ none) (no_gap : gap_char q.code_point ≡ false) where
  unit_other : pair_says r q ≡ grammar_says (asUnit r ∷ asOther q ∷ [])
  unit_other = rw (d1_left r q (not_nine R), g1, g2, g3, g4)
    where
      g1 : g1_rule (begin (E r q)) (F r q) ≡ false
      g1 = g1_is r q ∙ rw (R.base, eqb-false b 1 (λ h. omega (arith, R.two)))

      g2 : g2_rule (begin (E r q)) (F r q) ≡ false
      g2 = g2_is r q ∙ rw (R.value, R.large, R.no_gap, empty, no_gap) (and-false (not q.large_power))

      g3 : g3_rule (begin (E r q)) (F r q) ≡ false
      g3 = g3_is r q ∙ rw (R.value, R.large, empty)

      g4 : g4_rule (begin (E r q)) (F r q) ≡ false
      g4 = g4_is r q (none_retagged r q (rw empty)) ∙ rw (R.value, empty)

  other_unit : pair_says q r ≡ grammar_says (asOther q ∷ asUnit r ∷ [])
  other_unit = rw (d1_right q r (not_nine R), g1, g2, g3, g4)
    where
      g1 : g1_rule (begin (E q r)) (F q r) ≡ false
      g1 = g1_is q r ∙ rw (empty, and-false (eqb (or_zero q.base) 1))

      g2 : g2_rule (begin (E q r)) (F q r) ≡ false
      g2 = g2_is q r ∙ rw empty

      g3 : g3_rule (begin (E q r)) (F q r) ≡ false
      g3 = g3_is q r ∙ rw empty

      g4 : g4_rule (begin (E q r)) (F q r) ≡ false
      g4 = g4_is q r (none_retagged q r (rw (R.value, not_le v 9 R.tens) (and-false (leb 1 v)))) ∙ rw empty

-- ---- the law

-- the parts of a unit, but for "base up to the value", which fails
abbrev pub wide : Record → Bool
wide r = at_least 10 r.value && at_least 2 r.base && not (leb (or_zero r.base) (or_zero r.value)) && not r.large_power && not (gap_char r.code_point)

wide_law : (r : Record) → wide r ≡ true → Unit' r (or_zero r.value) (or_zero r.base) × (10 ≤ or_zero r.base)
wide_law r h =
    let a = at_least 10 r.value in
    let b = at_least 2 r.base in
    let c = not (leb (or_zero r.base) (or_zero r.value)) in
    let d = not r.large_power in
    let abcd = and_left (a && b && c && d) _ h in
    let abc = and_left (a && b && c) d abcd in
    let ab = and_left (a && b) c abc in
    let (value, tens) = least 10 r.value (and_left a b ab) in
    let (base, two) = least 2 r.base (and_right a b ab) in
    let above : or_zero r.value < or_zero r.base = false_lt _ _ (not-true _ (and_right (a && b) c abc)) in
    (record { value = value; base = base; tens = tens; two = two; large = not-true _ (and_right (a && b && c) d abcd); no_gap = not-true _ (and_right (a && b && c && d) _ h) }, omega arith)

no_value : (o : Option ℕ) → not (has o) ≡ true → o ≡ none
no_value none h = refl
no_value (some v) h = absurd (false≢true h)

-- y before and after the unit, and twice
abbrev Pairs : Record → Taken → Type 0
Pairs r y = (pair_says r (entry y) ≡ grammar_says (asUnit r ∷ y ∷ [])) × (pair_says (entry y) r ≡ grammar_says (y ∷ asUnit r ∷ [])) × AgreeAlone y

pairs : (r : Record) (v b : ℕ) → Unit' r v b → 10 ≤ b → (y : Taken) → of_kind y (entry y) ≡ true → Pairs r y
pairs r v b R ten (asDigit q) h =
    let L = digit_law (record { entry = q; law = h }) in
    let D : Digit' q (or_zero q.value) = record { value = L.value; base = L.base; nine = L.small; large = L.large } in
    (unit_digit_lem r q v b _ R D ten, digit_unit r q v b _ R D ten, digit_alone q (and_left _ _ (and_left (same q.type digit_type && at_most 9 q.value && exactly 1 q.base) _ h)))
pairs r v b R ten (asUnit q) h =
    let L = unit_law (record { entry = q; law = h }) in
    let Q : Unit' q (or_zero q.value) (or_zero q.base) = record { value = L.value; base = L.base; tens = L.ten; two = L.two; large = L.large; no_gap = L.no_gap } in
    (units r q v b _ _ R Q, units q r _ _ v b Q R, unit_alone q (rw L.value (le_true L.ten)) L.no_gap)
pairs r v b R ten (asLarge q) h =
    let K = large_law (record { entry = q; law = h }) in
    let L : Large' q (or_zero q.value) (or_zero q.base) = record { value = K.value; base = K.base; tens = K.ten; two = K.two; large = K.large } in
    (unit_large r q v b _ _ R L, large_unit r q v b _ _ R L, large_alone q (rw K.value (le_true K.ten)) K.large)
pairs r v b R ten (asOther q) h =
    let e : q.value ≡ none = no_value q.value (and_left _ _ (and_left (not (has q.value) && (leb (or_zero q.base) 1 || q.large_power)) _ h)) in
    let g : gap_char q.code_point ≡ false = not-true _ (and_right (not (has q.value) && (leb (or_zero q.base) 1 || q.large_power)) _ h) in
    (unit_other r q v b R e g, other_unit r q v b R e g, other_alone q e)

-- a line of one character twice goes by its own record
twice : (ts : List Taken) (x : Taken) → find (map entry ts) (entry x).code_point ≡ some (entry x) → AgreeAlone x → whole_value 2 (last_says ts (x ∷ x ∷ [])) ≡ grammar_says (x ∷ x ∷ [])
unfolding find
twice ts x h a =
    let own : find (entry x ∷ []) (entry x).code_point ≡ some (entry x) = rw (eqb_self (entry x).code_point) in
    pair_says_lem ts x x h h ∙ sym (pair_says_lem (x ∷ []) x x own own) ∙ a 2

pub two_characters : (ts : List Taken) (r : Record) (y : Taken) → wide r ≡ true → of_kind y (entry y) ≡ true
    → find (map entry ts) r.code_point ≡ some r → find (map entry ts) (entry y).code_point ≡ some (entry y)
    → (whole_value 2 (last_says ts (asUnit r ∷ y ∷ [])) ≡ grammar_says (asUnit r ∷ y ∷ [])) × (whole_value 2 (last_says ts (y ∷ asUnit r ∷ [])) ≡ grammar_says (y ∷ asUnit r ∷ []))
    × (whole_value 2 (last_says ts (asUnit r ∷ asUnit r ∷ [])) ≡ grammar_says (asUnit r ∷ asUnit r ∷ [])) × (whole_value 2 (last_says ts (y ∷ y ∷ [])) ≡ grammar_says (y ∷ y ∷ []))
two_characters ts r y w k h i =
    let (R, ten) = wide_law r w in
    let (before, behind, alone) = pairs r _ _ R ten y k in
    (pair_says_lem ts (asUnit r) y h i ∙ before, pair_says_lem ts y (asUnit r) i h ∙ behind, pair_says_lem ts (asUnit r) (asUnit r) h h ∙ units r r _ _ _ _ R R, twice ts y i alone)
