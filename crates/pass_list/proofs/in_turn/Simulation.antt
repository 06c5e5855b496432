-- The passes on stored edges are the passes on the edges that the stored edges stand for (`pass_list`, specs/Edges.antt), for any line of scalar values and any table's bytes: those of
-- the further call, with decimals. In order: one generic law of chains; what holds of every chain; numbers that may be absent; texts; digits with a point; the rules; the joined
-- edges; one step; whole lists.
-- No contract cites this file.
-- Assumes nothing.
use mathlib.Core.Path.{◌≡◌, refl, sym, ap, ◌∙◌, subst}
use mathlib.Core.Bool.{Bool, true, false, cond, not, ◌&&◌, ◌||◌, true≢false}
use mathlib.Core.Logic.{◌⊎◌, inl, inr}
use mathlib.Core.List.{List, [], ◌∷◌, ◌++◌, map, append-nil, append_assoc}
use mathlib.Core.Option
use mathlib.Core.Option.{Option, none, some}
use Prim.Native.Nat.{ℕ, zero, suc, ◌+◌, ◌*◌, ◌-◌, ◌/◌, ◌%◌, ◌^◌, ◌≤◌, ◌<◌}
use native.Mathlib.Numerals.{add-one}
use native.Mathlib.Omega.{arith}
use lib.ListN.{length, get_or, take, drop, length-drop, length-append}
use lib.Seq.{take-add, drop-drop, drop-cons, length-take-le, take-append-le, drop-append-le, take-append_seam, drop-append_seam}
use lib.Dec.{ltb, leb, eqb}
use borrow.Author.Tests.{leb-true, ltb-true, eqb-true}
use Rattle.whole.specs.Decimal.{padded}
use Rattle.text.specs.Bytes.{same}
use Rattle.text.specs.Sequence.{scalar, encode}
use Rattle.text.specs.Text.{encodes, Scalars}
use Rattle.text.proofs.BytesLaws.{same_true}
use Rattle.text.proofs.RowLaws.{and-true, or-true}
use Rattle.text.proofs.TextLaws.{encodes_append, encodes_injective, scalars_take, scalars_drop, encodes_one}
use Rattle.table.specs.Answers.{optionally}
use Rattle.passes.specs.NumEdge.{NumEdge, or_zero, has}
use Rattle.passes.specs.NumEdge as edges
use Rattle.passes.specs.Chains.{from, chains}
use Rattle.passes.proofs.ChainsLaws.{from_nil, from_none, from_some}
use Rattle.passes.specs.Passes as passes
use Rattle.passes.specs.Passes.{Pass, D1, G1, G2, G3, G4, power_of_ten, digit_edge, digit_type, one_place, is_script, cjk, exceeds, under}
use Rattle.passes.specs.DecimalPasses as decimal
use Rattle.passes.specs.DecimalPasses.{DecimalEdge, DecimalChain, point_character, one_more, with_point, whole_chain, is_g3, decimal_rule, digits_product, decimal_product, joins_digit, joins_point, longer_decimal, next_digit, next_later, bare_edges}
use Rattle.pass_list.specs.StoredEdge.{StoredEdge, Every, nil, cons}
use Rattle.pass_list.specs.StoredPass.{StoredChain, begin, touches, over_point, meets, d1_rule, g1_rule, g2_rule, g3_rule, g4_rule, rule, both_whole, whole_product, takes_decimal, decimals_fit, retags, with_numbers, counted, kind_of, over, joined_value, joined_decimals, joins, longer, next, chains_of, edges_of, joined_of, after, added, first_above}
use Rattle.pass_list.proofs.NextLaws.{joins_of_next}
use Rattle.pass_list.specs.Edges.{between, pointed, digits_text, row_text, edge_of, chain_of, decimal_edge_of, decimal_chain_of, WellMade}

-- ---- one generic law: f takes elements to elements and g chains to chains, and a step of one is a step of the other
module _ {A S B T : Type 0} (begin₁ : A → S) (next₁ : S → A → Option S) (begin₂ : B → T) (next₂ : T → B → Option T) (f : A → B) (g : S → T) (Outcome : A → Type 0) (Sound : S → Type 0) where
  pub record Agrees : Type 0 where
    pub begins : (a : A) → Outcome a → g (begin₁ a) ≡ begin₂ (f a)
    pub sound : (a : A) → Outcome a → Sound (begin₁ a)
    pub steps : (s : S) (a : A) → Sound s → Outcome a → next₂ (g s) (f a) ≡ Option.map g (next₁ s a)
    pub stays : (s : S) (a : A) (t : S) → Sound s → Outcome a → next₁ s a ≡ some t → Sound t

  module _ (agrees : Agrees) where
    pub from_agrees : (s : S) (l : List A) → Sound s → Every Outcome l → map g (from begin₁ next₁ s l) ≡ from begin₂ next₂ (g s) (map f l)
    from_agrees s [] h nil = rw (from_nil begin₁ next₁ s, from_nil begin₂ next₂ (g s))
    from_agrees s (a ∷ l) h (cons m r) = go (next₁ s a) refl (from_agrees (begin₁ a) l (agrees.sound a m) r) (λ t k. from_agrees t l k r)
      where
        go : (o : Option S) → next₁ s a ≡ o → map g (from begin₁ next₁ (begin₁ a) l) ≡ from begin₂ next₂ (g (begin₁ a)) (map f l)
            → ((t : S) → Sound t → map g (from begin₁ next₁ t l) ≡ from begin₂ next₂ (g t) (map f l)) → map g (from begin₁ next₁ s (a ∷ l)) ≡ from begin₂ next₂ (g s) (map f (a ∷ l))
        go none e i j =
            rw (from_none begin₁ next₁ s a l e, from_none begin₂ next₂ (g s) (f a) (map f l) (agrees.steps s a h m ∙ ap (Option.map g) e), ← (agrees.begins a m)) (ap (λ (x : List T). g s ∷ x) i)
        go (some t) e i j =
            rw (from_some begin₁ next₁ s t a l e, from_some begin₂ next₂ (g s) (g t) (f a) (map f l) (agrees.steps s a h m ∙ ap (Option.map g) e)) (j t (agrees.stays s a t h m e))

    pub from_sound : (s : S) (l : List A) → Sound s → Every Outcome l → Every Sound (from begin₁ next₁ s l)
    from_sound s [] h nil = rw (from_nil begin₁ next₁ s) (cons h nil)
    from_sound s (a ∷ l) h (cons m r) = go (next₁ s a) refl (from_sound (begin₁ a) l (agrees.sound a m) r) (λ t k. from_sound t l k r)
      where
        go : (o : Option S) → next₁ s a ≡ o → Every Sound (from begin₁ next₁ (begin₁ a) l) → ((t : S) → Sound t → Every Sound (from begin₁ next₁ t l)) → Every Sound (from begin₁ next₁ s (a ∷ l))
        go none e i j = rw (from_none begin₁ next₁ s a l e) (cons h i)
        go (some t) e i j = rw (from_some begin₁ next₁ s t a l e) (j t (agrees.stays s a t h m e))

    pub chains_agree : (l : List A) → Every Outcome l → map g (chains begin₁ next₁ l) ≡ chains begin₂ next₂ (map f l)
    unfolding chains
    chains_agree [] nil = refl
    chains_agree (a ∷ l) (cons m r) = from_agrees (begin₁ a) l (agrees.sound a m) r ∙ rw (agrees.begins a m)

    pub chains_sound : (l : List A) → Every Outcome l → Every Sound (chains begin₁ next₁ l)
    unfolding chains
    chains_sound [] nil = nil
    chains_sound (a ∷ l) (cons m r) = from_sound (begin₁ a) l (agrees.sound a m) r

-- ---- what holds of each element as it begins a chain, and of each chain that takes another element, holds of every chain
map_same : {A : Type 0} (o : Option A) → o ≡ Option.map (λ a. a) o
map_same none = refl
map_same (some a) = refl

pub chains_every : {A S : Type 0} (begin : A → S) (next : S → A → Option S) (Q : A → Type 0) (R : S → Type 0) → ((a : A) → Q a → R (begin a))
    → ((c : S) (a : A) (d : S) → R c → Q a → next c a ≡ some d → R d) → (l : List A) → Every Q l → Every R (chains begin next l)
chains_every begin next Q R first more l h =
    chains_sound begin next begin next (λ a. a) (λ c. c) Q R (record { begins = λ a q. refl; sound = first; steps = λ c a r q. map_same (next c a); stays = more }) l h

-- ---- numbers that may be absent, and tests
zero_or : (b : Bool) (v : ℕ) → (b ≡ false → v ≡ 0) → or_zero (optionally b v) ≡ v
zero_or true v h = refl
zero_or false v h = sym (h refl)

has_there : (b : Bool) (v : ℕ) → has (optionally b v) ≡ b
has_there true v = refl
has_there false v = refl

and_right : (x : Bool) → ((x && true) ≡ x) × ((x && false) ≡ false)
and_right true = (refl, refl)
and_right false = (refl, refl)

or_right : (x : Bool) → (x || false) ≡ x
or_right true = refl
or_right false = refl

-- 01's order of G4's tests, and the code's, which divides last
power_last : (a b p o c d : Bool) → (a && b && p && o && c && d) ≡ ((a && b && o && c && d) && p)
power_last false b p o c d = refl
power_last true false p o c d = refl
power_last true true true o c d = sym (and_right (o && c && d)).0
power_last true true false o c d = sym (and_right (o && c && d)).1

exceeds_there : (n v b : Bool) (near value base : ℕ) (g : Bool)
    → exceeds (optionally n near) (optionally v value) (optionally b base) g ≡ (((n && v && b) && (ltb value near && ltb base near)) || (not (n && v && b) && g))
exceeds_there true true true near value base g = sym (or_right (ltb value near && ltb base near))
exceeds_there true true false near value base g = refl
exceeds_there true false b near value base g = refl
exceeds_there false v b near value base g = refl

under_there : (h v b : Bool) (n value base : ℕ) → (h && under n (optionally v value) (optionally b base)) ≡ (h && v && b && ltb value n && ltb base n)
under_there true true true n value base = refl
under_there true true false n value base = refl
under_there true false b n value base = refl
under_there false v b n value base = refl

-- ---- texts
between_append : (w : List ℕ) (a b c : ℕ) → a ≤ b → b ≤ c → between w a b ++ between w b c ≡ between w a c
unfolding between
between_append w a b c h k =
    let e : c - a ≡ (b - a) + (c - b) = omega arith in
    let d : a + (b - a) ≡ b = omega arith in
    sym (encodes_append (take (b - a) (drop a w)) (take (c - b) (drop b w)))
    ∙ ap encodes (sym (rw (e, take-add (b - a) (c - b) (drop a w), drop-drop (b - a) a w, d)))

-- two digits and more, one behind
padded_more : (k m d : ℕ) → d ≤ 9 → padded k m ++ padded 1 d ≡ padded (suc k) (10 * m + d)
unfolding padded
padded_more k m d h =
    let a : (10 * m + d) / 10 ≡ m = omega arith in
    let b : (10 * m + d) % 10 ≡ d = omega arith in
    let c : d % 10 ≡ d = omega arith in
    rw (a, b, c)

-- one character of the line
between_one : (w : List ℕ) (p c : ℕ) → p < length w → get_or w p 0 ≡ c → between w p (suc p) ≡ encode c
unfolding between encodes
between_one w p c h e = let one : suc p - p ≡ 1 = omega arith in rw (one, drop-cons w p 0 h, e) (append-nil (encode c))

-- ---- digits with a point
-- a digit more behind those after the point
pointed_more : (k x : ℕ) (ds : List ℕ) → pointed (suc k) ds ++ (x ∷ []) ≡ pointed (suc (suc k)) (ds ++ (x ∷ []))
pointed_more k x ds =
    let n : length (ds ++ (x ∷ [])) ≡ suc (length ds) = length-append ds (x ∷ []) ∙ add-one (length ds) in
    let m : length (ds ++ (x ∷ [])) - suc (suc k) ≡ length ds - suc k = omega arith in
    rw (m, take-append-le (length ds - suc k) ds (x ∷ []) (omega arith), drop-append-le (length ds - suc k) ds (x ∷ []) (omega arith))
    (append_assoc (take (length ds - suc k) ds) (point_character ∷ drop (length ds - suc k) ds) (x ∷ []))

one_digit : (d : ℕ) → d ≤ 9 → padded 1 d ≡ (48 + d) ∷ []
unfolding padded
one_digit d h = let e : d % 10 ≡ d = omega arith in rw e

digits_more : (k n v d : ℕ) → 0 < n → d ≤ 9 → digits_text k n v ++ padded 1 d ≡ digits_text (one_more k) (suc n) (10 * v + d)
digits_more zero n v d h i = padded_more n v d i
digits_more (suc k) n v d h i =
    let e : suc (n - 1) ≡ suc n - 1 = omega arith in
    let more : digits_text (suc k) n v ++ padded 1 d ≡ pointed (suc (suc k)) (padded (suc (n - 1)) (10 * v + d)) = rw (← (padded_more (n - 1) v d i), one_digit d i) (pointed_more k (48 + d) (padded (n - 1) v)) in
    more ∙ ap (λ (m : ℕ). pointed (suc (suc k)) (padded m (10 * v + d))) e

-- the first digit after the point
digits_point : (n v d : ℕ) → d ≤ 9 → (padded n v ++ (point_character ∷ [])) ++ padded 1 d ≡ digits_text 1 (suc (suc n)) (10 * v + d)
digits_point n v d i =
    let e : suc (suc n) - 1 ≡ suc n = omega arith in
    let l : length (padded n v ++ ((48 + d) ∷ [])) - 1 ≡ length (padded n v) = let a = length-append (padded n v) ((48 + d) ∷ []) in let b : length ((48 + d) ∷ []) ≡ 1 = refl in omega arith in
    rw (e, ← (padded_more n v d i), one_digit d i, l, take-append_seam (padded n v) ((48 + d) ∷ []), drop-append_seam (padded n v) ((48 + d) ∷ []))
    (append_assoc (padded n v) (point_character ∷ []) ((48 + d) ∷ []))

point_encoded : encode point_character ≡ point_character ∷ []
unfolding encode
point_encoded = refl

-- by a power of ten that is 1
by_one : (n k : ℕ) → k ≡ 0 → n / 10 ^ k ≡ n
by_one n k z = let e : n / 1 ≡ n = omega arith in rw z e

and_three : (a b c : Bool) → ((a && b) && c) ≡ (a && (b && c))
and_three true b c = refl
and_three false b c = refl

between_is : (w : List ℕ) (a b : ℕ) → between w a b ≡ encodes (take (b - a) (drop a w))
unfolding between
between_is w a b = refl

-- `point` says which places hold a point without a record
module _ (point : ℕ → Bool) (w t : List ℕ) (scalars : Scalars w) (points : (p : ℕ) → point p ≡ true → get_or w p 0 ≡ point_character) where
  abbrev Made : StoredEdge → Type 0
  Made = WellMade point w t

  -- two characters and more are no single one
  two_chars : (a b c : ℕ) → a + 2 ≤ b → b ≤ length w → scalar c ≡ true → same (between w a b) (encode c) ≡ false
  two_chars a b c h k s = go (same (between w a b) (encode c)) refl
    where
      several : between w a b ≡ encode c → ⊥
      several e =
          let cs : take (b - a) (drop a w) ≡ c ∷ [] = encodes_injective _ _ (scalars_take (b - a) (drop a w) (scalars_drop a w scalars)) (s, tt) (sym (between_is w a b) ∙ e ∙ sym (encodes_one c)) in
          let n : length (take (b - a) (drop a w)) ≡ b - a = length-take-le (b - a) (drop a w) (simp length-drop (omega arith)) in
          let m : b - a ≡ 1 = sym n ∙ ap length cs in
          omega arith

      go : (x : Bool) → same (between w a b) (encode c) ≡ x → same (between w a b) (encode c) ≡ false
      go true e = absurd (several (same_true _ _ e))
      go false e = e

  no_gap : (x : StoredEdge) → x.start + 2 ≤ x.end → x.end ≤ length w → passes.gap (edge_of w t x) ≡ false
  unfolding passes.gap edge_of
  no_gap x h k = rw (two_chars x.start x.end 0x96F6 h k refl, two_chars x.start x.end 0x3007 h k refl)

  -- a digit is one place long, and its value is 0 to 9
  digit_is : (x : StoredEdge) → Made x → x.digit ≡ true → (x.end ≡ suc x.start) × (x.value ≤ 9)
  unfolding digit_edge edge_of
  digit_is x m d =
      let all = m.digit ∙ d in
      let value = and-true (same (edge_of w t x).type digit_type && one_place (edge_of w t x) && has (edge_of w t x).value) (leb (or_zero (edge_of w t x).value) 9) all in
      let there = and-true (same (edge_of w t x).type digit_type && one_place (edge_of w t x)) (has (edge_of w t x).value) value.0 in
      let place = and-true (same (edge_of w t x).type digit_type) (one_place (edge_of w t x)) there.0 in
      (eqb-true x.end (suc x.start) place.1, rw (← (zero_or x.has_value x.value m.value_absent)) (leb-true _ 9 value.1))

  -- ---- the rules
  module _ (l e : StoredEdge) (x : Made l) (y : Made e) where
    retags_agree : passes.retags (edge_of w t l) (edge_of w t e) ≡ retags l e
    unfolding passes.retags retags edge_of
    retags_agree =
        rw (x.script, zero_or l.has_base l.base x.base_absent, zero_or e.has_value e.value y.value_absent, add-one e.start)
        (power_last l.cjk (leb 1000 l.base) (power_of_ten l.base) (eqb e.end (suc e.start)) (leb 1 e.value) (leb e.value 9))

  module _ (c : StoredChain) (e : StoredEdge) (x : Made c.edge) (y : Made e) where
    d1_agrees : passes.d1_rule (chain_of w t c) (edge_of w t e) ≡ d1_rule c (counted D1 c.edge e)
    unfolding passes.d1_rule d1_rule counted with_numbers chain_of
    d1_agrees = rw (x.digit, y.digit)

    g1_agrees : passes.g1_rule (chain_of w t c) (edge_of w t e) ≡ g1_rule c (counted G1 c.edge e)
    unfolding passes.g1_rule g1_rule counted chain_of edge_of
    g1_agrees = rw (zero_or c.edge.has_base c.edge.base x.base_absent, zero_or c.edge.has_value c.edge.value x.value_absent, zero_or e.has_base e.base y.base_absent)

    g2_agrees : passes.g2_rule (chain_of w t c) (edge_of w t e) ≡ g2_rule c (counted G2 c.edge e)
    unfolding passes.g2_rule g2_rule counted chain_of edge_of
    g2_agrees =
        rw (y.gap, has_there c.edge.has_value c.edge.value, exceeds_there c.has_near e.has_value e.has_base c.near e.value e.base e.gap)

    g3_agrees : passes.g3_rule (chain_of w t c) (edge_of w t e) ≡ g3_rule c (counted G3 c.edge e)
    unfolding passes.g3_rule g3_rule counted chain_of edge_of
    g3_agrees = rw (has_there c.edge.has_value c.edge.value, has_there e.has_value e.value)

    g4_agrees : passes.g4_rule (chain_of w t c) (edge_of w t e) ≡ g4_rule c (counted G4 c.edge e)
    unfolding passes.g4_rule passes.counted_value passes.counted_base g4_rule counted with_numbers chain_of edge_of
    g4_agrees =
        rw (retags_agree c.edge e x y, has_there c.edge.has_value c.edge.value, zero_or c.edge.has_base c.edge.base x.base_absent, zero_or e.has_value e.value y.value_absent)
        (go (retags c.edge e))
      where
        go : (b : Bool) → (c.edge.has_value && under c.edge.base (cond b (some (e.value * (c.edge.base / 10))) (optionally e.has_value e.value)) (cond b (some (c.edge.base / 10)) (optionally e.has_base e.base)))
            ≡ g4_rule c (cond b (with_numbers e (e.value * (c.edge.base / 10)) (c.edge.base / 10)) e)
        go true = under_there c.edge.has_value true true c.edge.base (e.value * (c.edge.base / 10)) (c.edge.base / 10)
        go false = under_there c.edge.has_value e.has_value e.has_base c.edge.base e.value e.base

    rule_agrees : (p : Pass) → passes.rule p (chain_of w t c) (edge_of w t e) ≡ rule p c (counted p c.edge e)
    rule_agrees D1 = d1_agrees
    rule_agrees G1 = g1_agrees
    rule_agrees G2 = g2_agrees
    rule_agrees G3 = g3_agrees
    rule_agrees G4 = g4_agrees

    near_agrees : passes.nearest (edge_of w t e) (optionally c.has_near c.near) ≡ optionally (not e.gap || c.has_near) (cond e.gap c.near e.base)
    unfolding passes.nearest edge_of
    near_agrees = rw (y.gap, zero_or e.has_base e.base y.base_absent) (go e.gap)
      where
        go : (g : Bool) → cond g (optionally c.has_near c.near) (some e.base) ≡ optionally (not g || c.has_near) (cond g c.near e.base)
        go true = refl
        go false = refl

  -- ---- the joined edges: l before, and n after it as it counts
  over_agrees : (p : Pass) (l n : StoredEdge) (v : ℕ) → eqb (kind_of p) 1 ≡ false → between w l.start l.end ++ between w n.start n.end ≡ between w l.start n.end
      → passes.over p (edge_of w t l) (edge_of w t n) v (edge_of w t n).base (eqb (kind_of p) 4) ≡ edge_of w t (over p l n v 0)
  unfolding passes.over over edge_of
  over_agrees D1 l n v d o = absurd (let z : ◌≡◌ {A = ℕ} 0 1 = cc in omega arith)
  over_agrees G1 l n v d o = rw o
  over_agrees G2 l n v d o = rw o
  over_agrees G3 l n v d o = rw o
  over_agrees G4 l n v d o = rw o

  -- what a row of digits has for txt
  abbrev RowText : Pass → StoredChain → Type 0
  RowText D1 c = (c.more || c.edge.digit) ≡ true → (edge_of w t c.edge).txt ≡ row_text c.edge
  RowText G1 c = Unit {0}
  RowText G2 c = Unit {0}
  RowText G3 c = Unit {0}
  RowText G4 c = Unit {0}

  -- l before e, or l and the point behind it
  over_digits_lem : (l e : StoredEdge) (k : ℕ) → Made l → Made e → (edge_of w t l).txt ++ (edge_of w t e).txt ≡ digits_text k (e.end - l.start) (10 * l.value + e.value)
      → between w l.start l.end ++ between w e.start e.end ≡ between w l.start e.end
      → passes.joined D1 (edge_of w t l) (edge_of w t e) ≡ edge_of w t (over D1 l (counted D1 l e) (10 * l.value + e.value) k)
  unfolding passes.joined passes.over_digits over counted with_numbers edge_of
  over_digits_lem l e k x y txt o = rw (txt, o, zero_or l.has_value l.value x.value_absent, zero_or e.has_value e.value y.value_absent)

  over_point_lem : (l e : StoredEdge) (k : ℕ) → Made l → Made e → ((edge_of w t l).txt ++ (point_character ∷ [])) ++ (edge_of w t e).txt ≡ digits_text k (e.end - l.start) (10 * l.value + e.value)
      → (between w l.start l.end ++ (point_character ∷ [])) ++ between w e.start e.end ≡ between w l.start e.end
      → passes.joined D1 (with_point (edge_of w t l)) (edge_of w t e) ≡ edge_of w t (over D1 l (counted D1 l e) (10 * l.value + e.value) k)
  unfolding passes.joined passes.over_digits with_point over counted with_numbers edge_of
  over_point_lem l e k x y txt o = rw (txt, o, zero_or l.has_value l.value x.value_absent, zero_or e.has_value e.value y.value_absent)

  module _ (l e : StoredEdge) (x : Made l) (y : Made e) (digit : e.digit ≡ true) (row : (edge_of w t l).txt ≡ row_text l) where
    one_place_lem : e.end ≡ suc e.start
    one_place_lem = (digit_is e y digit).0

    digit_txt : (edge_of w t e).txt ≡ padded 1 e.value
    digit_txt = let a : e.end - e.start ≡ 1 = omega (arith, one_place_lem) in y.digit_text digit ∙ rw a

    touching_digits : l.end ≡ e.start → passes.joined D1 (edge_of w t l) (edge_of w t e) ≡ edge_of w t (over D1 l (counted D1 l e) (10 * l.value + e.value) (one_more l.decimals))
    touching_digits touch =
        let o = x.ordered in
        let b : e.end - l.start ≡ suc (l.end - l.start) = omega (arith, one_place_lem) in
        over_digits_lem l e (one_more l.decimals) x y (rw (row, digit_txt, b) (digits_more l.decimals (l.end - l.start) l.value e.value (omega arith) (digit_is e y digit).1))
        (let d = y.ordered in rw (← touch) (between_append w l.start l.end e.end (omega arith) (omega arith)))

    point_digits : l.decimals ≡ 0 → point l.end ≡ true → e.start ≡ suc l.end
        → passes.joined D1 (with_point (edge_of w t l)) (edge_of w t e) ≡ edge_of w t (over D1 l (counted D1 l e) (10 * l.value + e.value) 1)
    point_digits z p apart =
        let o = x.ordered in
        let i = y.inside in
        let b : e.end - l.start ≡ suc (suc (l.end - l.start)) = omega (arith, one_place_lem) in
        let c : between w l.end (suc l.end) ≡ point_character ∷ [] = between_one w l.end point_character (omega (arith, one_place_lem)) (points l.end p) ∙ point_encoded in
        over_point_lem l e 1 x y (rw (row, z, digit_txt, b) (digits_point (l.end - l.start) l.value e.value (digit_is e y digit).1))
        (rw (← c, apart) (ap (λ (b : List ℕ). b ++ between w (suc l.end) e.end) (between_append w l.start l.end (suc l.end) (omega arith) (omega arith))
        ∙ between_append w l.start (suc l.end) e.end (omega arith) (omega (arith, one_place_lem))))

  module _ (l e : StoredEdge) (x : Made l) (y : Made e) (touch : l.end ≡ e.start) where
    orig : between w l.start l.end ++ between w e.start e.end ≡ between w l.start e.end
    orig = let a = x.ordered in let b = y.ordered in rw (← touch) (between_append w l.start l.end e.end (omega arith) (omega arith))

    g1_joined : passes.joined G1 (edge_of w t l) (edge_of w t e) ≡ edge_of w t (over G1 l (counted G1 l e) (l.value * e.value) 0)
    unfolding passes.joined counted edge_of
    g1_joined = rw (zero_or l.has_value l.value x.value_absent, zero_or e.has_value e.value y.value_absent) (over_agrees G1 l e (l.value * e.value) refl orig)

    g2_joined : passes.joined G2 (edge_of w t l) (edge_of w t e) ≡ edge_of w t (over G2 l (counted G2 l e) (l.value + e.value) 0)
    unfolding passes.joined counted edge_of
    g2_joined = rw (zero_or l.has_value l.value x.value_absent, zero_or e.has_value e.value y.value_absent) (over_agrees G2 l e (l.value + e.value) refl orig)

    g3_joined : passes.joined G3 (edge_of w t l) (edge_of w t e) ≡ edge_of w t (over G3 l (counted G3 l e) (l.value * e.value) 0)
    unfolding passes.joined counted edge_of
    g3_joined = rw (zero_or l.has_value l.value x.value_absent, zero_or e.has_value e.value y.value_absent) (over_agrees G3 l e (l.value * e.value) refl orig)

    g4_joined : passes.joined G4 (edge_of w t l) (edge_of w t e) ≡ edge_of w t (over G4 l (counted G4 l e) (l.value + (counted G4 l e).value) 0)
    unfolding passes.joined passes.over passes.counted_value passes.counted_base counted with_numbers edge_of
    g4_joined =
        rw (retags_agree l e x y, zero_or l.has_value l.value x.value_absent, zero_or l.has_base l.base x.base_absent, zero_or e.has_value e.value y.value_absent)
        (go (retags l e))
      where
        go : (b : Bool) → passes.over G4 (edge_of w t l) (edge_of w t e) (l.value + or_zero (cond b (some (e.value * (l.base / 10))) (optionally e.has_value e.value))) (cond b (some (l.base / 10)) (optionally e.has_base e.base)) false
            ≡ edge_of w t (over G4 l (cond b (with_numbers e (e.value * (l.base / 10)) (l.base / 10)) e) (l.value + (cond b (with_numbers e (e.value * (l.base / 10)) (l.base / 10)) e).value) 0)
        go true = over_agrees G4 l (with_numbers e (e.value * (l.base / 10)) (l.base / 10)) (l.value + e.value * (l.base / 10)) refl orig
        go false = rw (zero_or e.has_value e.value y.value_absent) (over_agrees G4 l e (l.value + e.value) refl orig)

  -- ---- a joined edge is well made
  -- an edge as it counts keeps what a joined edge takes from it
  record Keeps (n e : StoredEdge) : Type 0 where
    end : n.end ≡ e.end
    script : (edge_of w t n).script ≡ (edge_of w t e).script
    cjk : n.cjk ≡ e.cjk
    mark : n.point ≡ e.point
    base : n.has_base ≡ false → n.base ≡ 0

  numbers_keep : (e : StoredEdge) (v b : ℕ) → Keeps (with_numbers e v b) e
  unfolding with_numbers edge_of
  numbers_keep e v b = record { end = refl; script = refl; cjk = refl; mark = refl; base = λ h. absurd (true≢false h) }

  itself_keeps : (e : StoredEdge) → Made e → Keeps e e
  itself_keeps e y = record { end = refl; script = refl; cjk = refl; mark = refl; base = y.base_absent }

  counted_keeps : (p : Pass) (l e : StoredEdge) → Made e → Keeps (counted p l e) e
  unfolding counted
  counted_keeps D1 l e y = numbers_keep e e.value 1
  counted_keeps G1 l e y = itself_keeps e y
  counted_keeps G2 l e y = itself_keeps e y
  counted_keeps G3 l e y = itself_keeps e y
  counted_keeps G4 l e y = go (retags l e)
    where
      go : (b : Bool) → Keeps (cond b (with_numbers e (e.value * (l.base / 10)) (l.base / 10)) e) e
      go true = numbers_keep e (e.value * (l.base / 10)) (l.base / 10)
      go false = itself_keeps e y

  -- no pass is called "digit"
  no_digit : (p : Pass) (l n : StoredEdge) (v k : ℕ) → digit_edge (edge_of w t (over p l n v k)) ≡ false
  unfolding digit_edge edge_of over same
  no_digit D1 l n v k = refl
  no_digit G1 l n v k = refl
  no_digit G2 l n v k = refl
  no_digit G3 l n v k = refl
  no_digit G4 l n v k = refl

  over_script : (p : Pass) (l n : StoredEdge) (v k : ℕ) → is_script (edge_of w t (over p l n v k)).script cjk ≡ is_script (edge_of w t n).script cjk
  unfolding over edge_of
  over_script p l n v k = refl

  -- k decimals over l and e: few, and behind a digit and the point
  abbrev Behind : StoredEdge → StoredEdge → ℕ → Type 0
  Behind l e k = (k ≤ 15) × (0 < k → l.start + suc (suc k) ≤ e.end)

  over_made : (p : Pass) (l n e : StoredEdge) (v k : ℕ) → Made l → Made e → Keeps n e → l.end ≤ e.start → Behind l e k → (0 < k → point (e.end - suc k) ≡ true) → Made (over p l n v k)
  unfolding over
  over_made p l n e v k x y keeps after behind before =
      let a = x.ordered in
      let b = y.ordered in
      let c = keeps.end in
      let d = y.inside in
      record {
        ordered = omega arith;
        inside = omega arith;
        value_absent = λ h. absurd (true≢false h);
        base_absent = keeps.base;
        digit = no_digit p l n v k;
        gap = no_gap (over p l n v k) (omega arith) (omega arith);
        script = over_script p l n v k ∙ rw (keeps.script, y.script, keeps.cjk);
        digit_text = λ h. absurd (true≢false (sym h));
        digit_whole = λ h. absurd (true≢false (sym h));
        few_decimals = behind.0;
        decimals_inside = λ h. rw c (behind.1 h);
        mark = keeps.mark ∙ y.mark ∙ ap point (sym c);
        point_before = λ h. rw c (before h);
      }

  -- ---- one step
  pub record Sound (p : Pass) (c : StoredChain) : Type 0 where
    pub made : Made c.edge
    pub row : RowText p c

  module _ (c : StoredChain) (e : StoredEdge) (y : Made e) where
    -- the texts' places are the stored ones
    end_same : (chain_of w t c).edge.end ≡ c.edge.end
    unfolding chain_of edge_of
    end_same = refl

    start_same : (edge_of w t e).start ≡ e.start
    unfolding edge_of
    start_same = refl

    -- the edge over the chain, whose edge is that of the stored edge
    chain_edge_is : (chain_of w t c).edge ≡ edge_of w t c.edge
    unfolding chain_of
    chain_edge_is = refl

    longer_agrees : (p : Pass) → Made c.edge → (j : NumEdge) → j ≡ edge_of w t (longer p c e).edge → passes.longer (chain_of w t c) (edge_of w t e) j ≡ chain_of w t (longer p c e)
    unfolding passes.longer longer chain_of
    longer_agrees p m j h = rw (h, near_agrees c e m y)

    longer_decimals : (p : Pass) → (longer p c e).edge.decimals ≡ joined_decimals p c e
    unfolding longer over
    longer_decimals p = refl

    decimal_longer : (p : Pass) → Made c.edge → (j : NumEdge) (k : ℕ) → j ≡ edge_of w t (longer p c e).edge → k ≡ joined_decimals p c e
        → ◌≡◌ {A = DecimalChain} (record { chain = passes.longer (chain_of w t c) (edge_of w t e) j; decimals = k }) (decimal_chain_of w t (longer p c e))
    decimal_longer p m j k h d = rw (longer_agrees p m j h, d, longer_decimals p)

    -- ---- D1
    digits : d1_rule c (counted D1 c.edge e) ≡ true → ((c.more || c.edge.digit) ≡ true) × (e.digit ≡ true)
    unfolding d1_rule counted with_numbers
    digits r = and-true (c.more || c.edge.digit) e.digit r

    -- what goes over a point
    over_facts : over_point c e ≡ true → (c.edge.point ≡ true) × (c.edge.decimals ≡ 0) × (e.start ≡ suc c.edge.end)
    over_facts o =
        let a = and-true c.edge.point (eqb c.edge.decimals 0 && eqb e.start (suc c.edge.end)) o in
        let b = and-true (eqb c.edge.decimals 0) (eqb e.start (suc c.edge.end)) a.1 in
        (a.0, eqb-true c.edge.decimals 0 b.0, eqb-true e.start (suc c.edge.end) b.1)

    joined_touching : Sound D1 c → touches c e ≡ true → d1_rule c (counted D1 c.edge e) ≡ true → passes.joined D1 (edge_of w t c.edge) (edge_of w t e) ≡ edge_of w t (longer D1 c e).edge
    unfolding longer counted with_numbers
    joined_touching s touch r = touching_digits c.edge e s.made y (digits r).1 (s.row (digits r).0) (eqb-true c.edge.end e.start touch) ∙ rw touch

    joined_point : Sound D1 c → touches c e ≡ false → over_point c e ≡ true → d1_rule c (counted D1 c.edge e) ≡ true
        → passes.joined D1 (with_point (edge_of w t c.edge)) (edge_of w t e) ≡ edge_of w t (longer D1 c e).edge
    unfolding longer counted with_numbers
    joined_point s apart o r =
        let f = over_facts o in
        point_digits c.edge e s.made y (digits r).1 (s.row (digits r).0) f.1 (sym s.made.mark ∙ f.0) f.2 ∙ rw apart

    digit_step : Sound D1 c → next_digit point (decimal_chain_of w t c) (edge_of w t e) ≡ Option.map (decimal_chain_of w t) (next D1 c e)
    unfolding next_digit joins_digit joins_point next joins chain_of edge_of
    digit_step s =
        rw (d1_agrees c e s.made y, end_same, start_same, chain_edge_is, ← s.made.mark)
        (go (touches c e) (ltb c.edge.decimals 15) c.edge.point (eqb c.edge.decimals 0) (eqb e.start (suc c.edge.end)) (d1_rule c (counted D1 c.edge e)) not_both
        (λ touch r. decimal_longer D1 s.made _ _ (joined_touching s touch r) (rw touch))
        (λ apart o r. decimal_longer D1 s.made _ _ (joined_point s apart o r) (rw apart)))
      where
        not_both : touches c e ≡ true → eqb e.start (suc c.edge.end) ≡ true → ⊥
        not_both h k = let a = eqb-true c.edge.end e.start h in let b = eqb-true e.start (suc c.edge.end) k in omega arith

        touched : DecimalChain
        touched = longer_decimal (decimal_chain_of w t c) (edge_of w t e) (passes.joined D1 (edge_of w t c.edge) (edge_of w t e)) (one_more c.edge.decimals)

        across : DecimalChain
        across = longer_decimal (decimal_chain_of w t c) (edge_of w t e) (passes.joined D1 (with_point (edge_of w t c.edge)) (edge_of w t e)) 1

        go : (touch few at whole apart r : Bool) → (touch ≡ true → apart ≡ true → ⊥) → (touch ≡ true → r ≡ true → touched ≡ decimal_chain_of w t (longer D1 c e))
            → (touch ≡ false → (at && (whole && apart)) ≡ true → r ≡ true → across ≡ decimal_chain_of w t (longer D1 c e))
            → cond (touch && (few && r)) (some touched) (cond (at && (whole && (apart && r))) (some across) none)
            ≡ Option.map (decimal_chain_of w t) (cond (((touch && few) || (at && (whole && apart))) && (r && true)) (some (longer D1 c e)) none)
        go true true at whole apart true n a b = ap some (a refl refl)
        go true true false whole apart false n a b = refl
        go true true true false apart false n a b = refl
        go true true true true false false n a b = refl
        go true true true true true false n a b = refl
        go true false false whole apart r n a b = refl
        go true false true false apart r n a b = refl
        go true false true true false r n a b = refl
        go true false true true true r n a b = absurd (n refl refl)
        go false few false whole apart r n a b = refl
        go false few true false apart r n a b = refl
        go false few true true false r n a b = refl
        go false few true true true false n a b = refl
        go false few true true true true n a b = ap some (b refl refl refl)

    -- ---- the later passes
    -- two whole edges
    whole_joined : (p : Pass) → eqb (kind_of p) 1 ≡ false → Made c.edge → c.edge.end ≡ e.start → c.edge.decimals ≡ 0
        → passes.joined p (edge_of w t c.edge) (edge_of w t e) ≡ edge_of w t (longer p c e).edge
    unfolding longer counted
    whole_joined D1 n m touch z = absurd (true≢false n)
    whole_joined G1 n m touch z = g1_joined c.edge e m y touch ∙ ap (λ (v : ℕ). edge_of w t (over G1 c.edge e v 0)) (sym (by_one (c.edge.value * e.value) c.edge.decimals z))
    whole_joined G2 n m touch z = g2_joined c.edge e m y touch
    whole_joined G3 n m touch z = g3_joined c.edge e m y touch ∙ ap (λ (v : ℕ). edge_of w t (over G3 c.edge e v 0)) (sym (by_one (c.edge.value * e.value) c.edge.decimals z))
    whole_joined G4 n m touch z = g4_joined c.edge e m y touch

    -- a written decimal on the left
    product_joined : (p : Pass) → takes_decimal p c.edge e ≡ true → Made c.edge → c.edge.end ≡ e.start
        → decimal_product p c.edge.decimals (edge_of w t c.edge) (edge_of w t e) ≡ edge_of w t (longer p c e).edge
    unfolding longer counted decimal_product edge_of
    product_joined D1 d m touch = absurd (true≢false (sym d))
    product_joined G1 d m touch =
        rw (zero_or c.edge.has_value c.edge.value m.value_absent, zero_or e.has_value e.value y.value_absent)
        (over_agrees G1 c.edge e (c.edge.value * e.value / 10 ^ c.edge.decimals) refl (orig c.edge e m y touch))
    product_joined G2 d m touch = absurd (true≢false (sym d))
    product_joined G3 d m touch =
        rw (zero_or c.edge.has_value c.edge.value m.value_absent, zero_or e.has_value e.value y.value_absent)
        (over_agrees G3 c.edge e (c.edge.value * e.value / 10 ^ c.edge.decimals) refl (orig c.edge e m y touch))
    product_joined G4 d m touch = absurd (true≢false (sym d))

    -- the tests of a written decimal on the left
    decimal_tests : (p : Pass) → eqb (kind_of p) 1 ≡ false → Made c.edge
        → (decimal_rule p c.edge.decimals (chain_of w t c) (edge_of w t e) && eqb (digits_product (edge_of w t c.edge) (edge_of w t e) % 10 ^ c.edge.decimals) 0)
        ≡ (rule p c (counted p c.edge e) && takes_decimal p c.edge e)
    unfolding decimal_rule edge_of chain_of
    decimal_tests D1 n m = absurd (true≢false n)
    decimal_tests G1 n m =
        rw (zero_or c.edge.has_value c.edge.value m.value_absent, zero_or e.has_value e.value y.value_absent, g1_agrees c e m y)
        (and_three (g1_rule c (counted G1 c.edge e)) (leb (10 ^ c.edge.decimals) c.edge.value) (whole_product c.edge e))
    decimal_tests G2 n m = sym (and_right (g2_rule c (counted G2 c.edge e))).1
    decimal_tests G3 n m =
        rw (zero_or c.edge.has_value c.edge.value m.value_absent, zero_or e.has_value e.value y.value_absent, g3_agrees c e m y)
    decimal_tests G4 n m = sym (and_right (g4_rule c (counted G4 c.edge e))).1

    -- by the decimals of the edge itself
    fit_is : (p : Pass) → eqb (kind_of p) 1 ≡ false → decimals_fit p c.edge (counted p c.edge e) ≡ (both_whole c.edge e || (eqb e.decimals 0 && takes_decimal p c.edge e))
    unfolding counted with_numbers
    fit_is D1 n = absurd (true≢false n)
    fit_is G1 n = refl
    fit_is G2 n = refl
    fit_is G3 n = refl
    fit_is G4 n = go (retags c.edge e)
      where
        go : (b : Bool) → decimals_fit G4 c.edge (cond b (with_numbers e (e.value * (c.edge.base / 10)) (c.edge.base / 10)) e) ≡ (both_whole c.edge e || (eqb e.decimals 0 && false))
        go true = refl
        go false = refl

    later_meets : (p : Pass) → eqb (kind_of p) 1 ≡ false → meets p c e ≡ touches c e
    later_meets D1 n = absurd (true≢false n)
    later_meets G1 n = refl
    later_meets G2 n = refl
    later_meets G3 n = refl
    later_meets G4 n = refl

    later_decimals : (p : Pass) → eqb (kind_of p) 1 ≡ false → 0 ≡ joined_decimals p c e
    later_decimals D1 n = absurd (true≢false n)
    later_decimals G1 n = refl
    later_decimals G2 n = refl
    later_decimals G3 n = refl
    later_decimals G4 n = refl

    later_step : (p : Pass) → eqb (kind_of p) 1 ≡ false → Sound p c → next_later p (decimal_chain_of w t c) (decimal_edge_of w t e) ≡ Option.map (decimal_chain_of w t) (next p c e)
    unfolding next_later decimal.takes_decimal passes.next next joins edge_of passes.longer counted longer chain_of
    later_step p n s =
        rw (rule_agrees c e s.made y p, chain_edge_is, decimal_tests p n s.made, end_same, start_same, later_meets p n, fit_is p n)
        (go (eqb c.edge.decimals 0) (eqb e.decimals 0) (touches c e) (rule p c (counted p c.edge e)) (takes_decimal p c.edge e)
        (λ touch z. decimal_longer p s.made _ 0 (whole_joined p n s.made (eqb-true _ _ touch) (eqb-true _ 0 z)) (later_decimals p n))
        (λ touch d. decimal_longer p s.made _ 0 (product_joined p d s.made (eqb-true _ _ touch)) (later_decimals p n)))
      where
        both : passes.Chain
        both = passes.longer (chain_of w t c) (edge_of w t e) (passes.joined p (edge_of w t c.edge) (edge_of w t e))

        product : passes.Chain
        product = passes.longer (chain_of w t c) (edge_of w t e) (decimal_product p c.edge.decimals (edge_of w t c.edge) (edge_of w t e))

        go : (left right touch r d : Bool) → (touch ≡ true → left ≡ true → whole_chain both ≡ decimal_chain_of w t (longer p c e))
            → (touch ≡ true → d ≡ true → whole_chain product ≡ decimal_chain_of w t (longer p c e))
            → cond (left && right) (Option.map whole_chain (cond (touch && r) (some both) none)) (cond (right && (touch && (r && d))) (some (whole_chain product)) none)
            ≡ Option.map (decimal_chain_of w t) (cond (touch && (r && ((left && right) || (right && d)))) (some (longer p c e)) none)
        go true true true true d a b = ap some (a refl refl)
        go true true true false d a b = refl
        go true true false r d a b = refl
        go true false true true d a b = refl
        go true false true false d a b = refl
        go true false false r d a b = refl
        go false true true true true a b = ap some (b refl refl)
        go false true true true false a b = refl
        go false true true false d a b = refl
        go false true false r d a b = refl
        go false false true true d a b = refl
        go false false true false d a b = refl
        go false false false r d a b = refl

    steps_agree : (p : Pass) → Sound p c → decimal.next point p (decimal_chain_of w t c) (decimal_edge_of w t e) ≡ Option.map (decimal_chain_of w t) (next p c e)
    unfolding decimal.next
    steps_agree D1 s = digit_step s
    steps_agree G1 s = later_step G1 refl s
    steps_agree G2 s = later_step G2 refl s
    steps_agree G3 s = later_step G3 refl s
    steps_agree G4 s = later_step G4 refl s

    -- ---- the longer chain is sound
    meeting : (p : Pass) → joins p c e ≡ true → meets p c e ≡ true
    unfolding joins
    meeting p j = (and-true (meets p c e) _ j).0

    meets_after : (p : Pass) → meets p c e ≡ true → c.edge.end ≤ e.start
    meets_after D1 h = go (or-true (touches c e && ltb c.edge.decimals 15) (over_point c e) h)
      where
        go : ((touches c e && ltb c.edge.decimals 15) ≡ true) ⊎ (over_point c e ≡ true) → c.edge.end ≤ e.start
        go (inl k) = let a = eqb-true c.edge.end e.start (and-true (touches c e) (ltb c.edge.decimals 15) k).0 in omega arith
        go (inr o) = let a = (over_facts o).2 in omega arith
    meets_after G1 h = let a = eqb-true c.edge.end e.start h in omega arith
    meets_after G2 h = let a = eqb-true c.edge.end e.start h in omega arith
    meets_after G3 h = let a = eqb-true c.edge.end e.start h in omega arith
    meets_after G4 h = let a = eqb-true c.edge.end e.start h in omega arith

    -- the point before the decimals of a row that has one digit more
    point_stays : Made c.edge → meets D1 c e ≡ true → d1_rule c (counted D1 c.edge e) ≡ true → 0 < joined_decimals D1 c e → point (e.end - suc (joined_decimals D1 c e)) ≡ true
    point_stays m h r = go (touches c e) c.edge.decimals refl refl
      where
        one : e.end ≡ suc e.start
        one = (digit_is e y (digits r).1).0

        go : (touch : Bool) (k : ℕ) → touches c e ≡ touch → c.edge.decimals ≡ k → 0 < cond touch (one_more k) 1 → point (e.end - suc (cond touch (one_more k) 1)) ≡ true
        go true zero a z i = absurd (omega arith)
        go true (suc k) a z i =
            let b = eqb-true c.edge.end e.start a in
            let f : e.end - suc (suc (suc k)) ≡ c.edge.end - suc (suc k) = omega (arith, one) in
            rw f (rw z at (m.point_before (omega arith)))
        go false k a z i = across (or-true (touches c e && ltb c.edge.decimals 15) (over_point c e) h)
          where
            across : ((touches c e && ltb c.edge.decimals 15) ≡ true) ⊎ (over_point c e ≡ true) → point (e.end - 2) ≡ true
            across (inl d) = absurd (true≢false (sym (and-true (touches c e) (ltb c.edge.decimals 15) d).0 ∙ a))
            across (inr o) = let f = over_facts o in let g : e.end - 2 ≡ c.edge.end = omega (arith, one, f.2) in rw g (sym m.mark ∙ f.0)

    -- its decimals are at most fifteen, behind a digit and the point
    row_behind : Made c.edge → meets D1 c e ≡ true → Behind c.edge e (joined_decimals D1 c e)
    row_behind m h = go (touches c e) c.edge.decimals refl refl
      where
        met : ((touches c e && ltb c.edge.decimals 15) ≡ true) ⊎ (over_point c e ≡ true)
        met = or-true (touches c e && ltb c.edge.decimals 15) (over_point c e) h

        go : (touch : Bool) (k : ℕ) → touches c e ≡ touch → c.edge.decimals ≡ k → Behind c.edge e (cond touch (one_more k) 1)
        go true zero a z = (omega arith, λ i. absurd (omega arith))
        go true (suc k) a z = (few met, λ i. omega (arith, eqb-true c.edge.end e.start a, m.decimals_inside (omega arith), y.ordered))
          where
            few : ((touches c e && ltb c.edge.decimals 15) ≡ true) ⊎ (over_point c e ≡ true) → suc (suc k) ≤ 15
            few (inl d) = omega (arith, ltb-true c.edge.decimals 15 (and-true (touches c e) (ltb c.edge.decimals 15) d).1)
            few (inr o) = absurd (omega (arith, (over_facts o).1))
        go false k a z = (omega arith, λ i. across met)
          where
            across : ((touches c e && ltb c.edge.decimals 15) ≡ true) ⊎ (over_point c e ≡ true) → c.edge.start + 3 ≤ e.end
            across (inl d) = absurd (true≢false (sym (and-true (touches c e) (ltb c.edge.decimals 15) d).0 ∙ a))
            across (inr o) = omega (arith, (over_facts o).2, m.ordered, y.ordered)

    behind_stays : (p : Pass) → Made c.edge → joins p c e ≡ true → Behind c.edge e (joined_decimals p c e)
    behind_stays D1 m j = row_behind m (meeting D1 j)
    behind_stays G1 m j = (omega arith, λ i. absurd (omega arith))
    behind_stays G2 m j = (omega arith, λ i. absurd (omega arith))
    behind_stays G3 m j = (omega arith, λ i. absurd (omega arith))
    behind_stays G4 m j = (omega arith, λ i. absurd (omega arith))

    before_stays : (p : Pass) → Made c.edge → joins p c e ≡ true → 0 < joined_decimals p c e → point (e.end - suc (joined_decimals p c e)) ≡ true
    unfolding joins
    before_stays D1 m j = let a = and-true (meets D1 c e) _ j in point_stays m a.0 (and-true (d1_rule c (counted D1 c.edge e)) true a.1).0
    before_stays G1 m j = λ i. absurd (omega arith)
    before_stays G2 m j = λ i. absurd (omega arith)
    before_stays G3 m j = λ i. absurd (omega arith)
    before_stays G4 m j = λ i. absurd (omega arith)

    longer_made : (p : Pass) → Sound p c → joins p c e ≡ true → Made (longer p c e).edge
    unfolding longer
    longer_made p s j =
        over_made p c.edge (counted p c.edge e) e (joined_value p c e) (joined_decimals p c e) s.made y (counted_keeps p c.edge e y) (meets_after p (meeting p j)) (behind_stays p s.made j) (before_stays p s.made j)

    row_longer : (p : Pass) → RowText p (longer p c e)
    unfolding longer over edge_of
    row_longer D1 = λ h. refl
    row_longer G1 = tt
    row_longer G2 = tt
    row_longer G3 = tt
    row_longer G4 = tt

    stays_sound : (p : Pass) (d : StoredChain) → Sound p c → next p c e ≡ some d → Sound p d
    stays_sound p d s n =
        let j = joins_of_next p c e d n in
        subst (Sound p) (sym j.1) (record { made = longer_made p s j.0; row = row_longer p })

  module _ (e : StoredEdge) (y : Made e) where
    begins_agree : chain_of w t (begin e) ≡ passes.begin (edge_of w t e)
    unfolding begin passes.begin passes.nearest chain_of edge_of
    begins_agree = rw (y.gap, zero_or e.has_base e.base y.base_absent) (go e.gap)
      where
        go : (g : Bool) → ◌≡◌ {A = passes.Chain} (record { edge = edge_of w t e; more = false; near = optionally (not g) (cond g 0 e.base) }) (record { edge = edge_of w t e; more = false; near = cond g none (some e.base) })
        go true = refl
        go false = refl

    begins_sound : (p : Pass) → Sound p (begin e)
    unfolding begin
    begins_sound D1 = record { made = y; row = λ d. y.digit_text d ∙ ap (λ (k : ℕ). digits_text k (e.end - e.start) e.value) (sym (y.digit_whole d)) }
    begins_sound G1 = record { made = y; row = tt }
    begins_sound G2 = record { made = y; row = tt }
    begins_sound G3 = record { made = y; row = tt }
    begins_sound G4 = record { made = y; row = tt }

  -- the generic law's case, for all five passes
  decimal_begins : (e : StoredEdge) → Made e → decimal_chain_of w t (begin e) ≡ decimal.begin (decimal_edge_of w t e)
  unfolding decimal.begin begin
  decimal_begins e y = ap (λ (c : passes.Chain). record { chain = c; decimals = e.decimals }) (begins_agree e y)

  pass_agrees : (p : Pass) → Agrees begin (next p) decimal.begin (decimal.next point p) (decimal_edge_of w t) (decimal_chain_of w t) Made (Sound p)
  pass_agrees p = record {
    begins = decimal_begins;
    sound = λ e y. begins_sound e y p;
    steps = λ c e s y. steps_agree c e y p s;
    stays = λ c e d s y n. stays_sound c e y p d s n;
  }

  -- ---- whole lists
  edges_map : (cs : List StoredChain) → map (decimal_edge_of w t) (edges_of cs) ≡ decimal.edges_of (map (decimal_chain_of w t) cs)
  unfolding chain_of
  edges_map [] = refl
  edges_map (c ∷ cs) = ap (λ (l : List DecimalEdge). decimal_edge_of w t c.edge ∷ l) (edges_map cs)

  joined_map : (cs : List StoredChain) → map (decimal_edge_of w t) (joined_of cs) ≡ decimal.joined_of (map (decimal_chain_of w t) cs)
  unfolding joined_of decimal.joined_of chain_of
  joined_map [] = refl
  joined_map (c ∷ cs) = rw (← (joined_map cs)) (go c.more)
    where
      go : (m : Bool) → map (decimal_edge_of w t) (cond m (c.edge ∷ joined_of cs) (joined_of cs)) ≡ cond m (decimal_edge_of w t c.edge ∷ map (decimal_edge_of w t) (joined_of cs)) (map (decimal_edge_of w t) (joined_of cs))
      go true = refl
      go false = refl

  edges_made : (p : Pass) (cs : List StoredChain) → Every (Sound p) cs → Every Made (edges_of cs)
  edges_made p [] nil = nil
  edges_made p (c ∷ cs) (cons s r) = cons s.made (edges_made p cs r)

  joined_made : (p : Pass) (cs : List StoredChain) → Every (Sound p) cs → Every Made (joined_of cs)
  unfolding joined_of
  joined_made p [] nil = nil
  joined_made p (c ∷ cs) (cons s r) = go c.more (joined_made p cs r)
    where
      go : (m : Bool) → Every Made (joined_of cs) → Every Made (cond m (c.edge ∷ joined_of cs) (joined_of cs))
      go true i = cons s.made i
      go false i = i

  pub above_map : (l : List StoredEdge) → Every Made l → edges.first_above (map (edge_of w t) l) ≡ first_above l
  unfolding edges.first_above first_above edge_of
  above_map [] nil = refl
  above_map (x ∷ l) (cons m r) = rw (zero_or x.has_value x.value m.value_absent, above_map l r)

  module _ (p : Pass) (l : List StoredEdge) (made : Every Made l) where
    chains_of_agree : map (decimal_chain_of w t) (chains_of p l) ≡ decimal.chains_of point p (map (decimal_edge_of w t) l)
    unfolding chains_of decimal.chains_of
    chains_of_agree = chains_agree begin (next p) decimal.begin (decimal.next point p) (decimal_edge_of w t) (decimal_chain_of w t) Made (Sound p) (pass_agrees p) l made

    chains_of_sound : Every (Sound p) (chains_of p l)
    unfolding chains_of
    chains_of_sound = chains_sound begin (next p) decimal.begin (decimal.next point p) (decimal_edge_of w t) (decimal_chain_of w t) Made (Sound p) (pass_agrees p) l made

    -- the list after the pass
    pub after_agrees : map (decimal_edge_of w t) (after p l) ≡ decimal.after point p (map (decimal_edge_of w t) l)
    unfolding after decimal.after
    after_agrees = edges_map (chains_of p l) ∙ ap decimal.edges_of chains_of_agree

    pub after_made : Every Made (after p l)
    unfolding after
    after_made = edges_made p (chains_of p l) chains_of_sound

    -- the joined edges
    pub added_agrees : map (decimal_edge_of w t) (added p l) ≡ decimal.added point p (map (decimal_edge_of w t) l)
    unfolding added decimal.added
    added_agrees = joined_map (chains_of p l) ∙ ap decimal.joined_of chains_of_agree

    pub added_made : Every Made (added p l)
    unfolding added
    added_made = joined_made p (chains_of p l) chains_of_sound
