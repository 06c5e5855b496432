-- The edges that are made are edges of the call, and so are those of the lattice after the stage. No contract cites this file.
-- In order: texts; a percentage; a fraction; the neighbours of a place; what a marker leads to; the stage. Assumes nothing.
use mathlib.Core.Path.{◌≡◌, refl, sym, ap, ◌∙◌, subst}
use mathlib.Core.Bool.{Bool, true, false, ◌&&◌, not, true≢false}
use mathlib.Core.List.{List, [], ◌∷◌}
use mathlib.Core.Option.{Option, none, some}
use Prim.Native.Nat.{ℕ, zero, suc, ◌+◌, ◌/◌, ◌%◌, ◌^◌, ◌≤◌, ◌<◌}
use native.Mathlib.Nat.{le_trans}
use native.Mathlib.Omega.{arith}
use lib.ListN.{length, length-append}
use lib.Dec.{eqb, ltb}
use borrow.Author.Tests.{lt-ltb, le-leb, ltb-true, eqb-true}
use Rattle.text.specs.declared.Place.{Place}
use Rattle.text.specs.Sequence.{encode, scalar}
use Rattle.text.specs.Text.{well_formed, encodes, is_nil}
use Rattle.text.proofs.RowLaws.{cond_cases, and-true}
use Rattle.text.proofs.TextLaws.{left_nil, encodes_well_formed}
use Rattle.whole.specs.Whole.{TOP}
use Rattle.whole.specs.Decimal.{decimal}
use Rattle.whole.proofs.DecimalLaws.{decimal_one, decimal_more, decimal_ind, length_decimal_top}
use Rattle.table.specs.Table.{Table}
use Rattle.passes.specs.Characters.{lowest}
use Rattle.passes.proofs.ratio.RatioLaws.{lowest_at_most, lowest_positive}
use Rattle.edge.specs.Edge.{Text, Edge, Numeric, NumericFits}
use Rattle.edge.specs.Check.{each, sound_fraction, sound_numbers, sound_numeric, sound}
use Rattle.paths.specs.declared.Query.TheVariants.{Right, Left}
use Rattle.paths.specs.Best.{Best, asked, score, numbered, left_neighbor, right_neighbor}
use Rattle.paths.proofs.BestLaws.{Each, OfBest, hold_more, best_holds, best_positive, score_asks, right_start}
use Rattle.pass_list.specs.StoredEdge.{Every, nil, cons}
use Rattle.numbers.specs.CallEdge.{Short, CallEdge, CallEdges}
use Rattle.numbers.proofs.stages.SoundLaws.{Sound, sound_of, formed_append}
use Rattle.numbers.proofs.stages.CallLaws.{allowed_map, add_all_call, turn_off_call}
use Rattle.numbers.specs.Listed.{whole_value}
use Rattle.numbers.specs.Fractions.{Marker, percentage, connector, no_marker, Outcome, made, nothing, percentage_type, fraction_type, script_of, fraction_edge, percent_edge, is_numeric, otherwise, both, with_values, between, marked, by_marker, marker_at, outcome_at, outcomes_from, new_edges, used_edges, fractions}
use Rattle.fraction_choices.specs.Choice.{number_or}
use Rattle.fractions.proofs.parts.EdgeLaws.{some_inj, none_some, txt_short, value_is}

-- ---- texts
formed_byte : (c : ℕ) → c < 128 → well_formed (c ∷ []) ≡ true
unfolding encodes encode
formed_byte c h =
    let e : encodes (c ∷ []) ≡ c ∷ [] = rw (lt-ltb c 128 h) in
    let s : scalar c ≡ true = rw (le-leb 0 c (omega arith), le-leb c 0xD7FF (omega arith)) in
    ap well_formed (sym e) ∙ encodes_well_formed (c ∷ []) (s, tt)

abbrev ascii : List ℕ → Bool
ascii [] = true
ascii (c ∷ s) = ltb c 128 && ascii s

formed_ascii : (s : List ℕ) → ascii s ≡ true → well_formed s ≡ true
formed_ascii [] e = ap is_nil left_nil
formed_ascii (c ∷ s) e = let h = and-true (ltb c 128) (ascii s) e in formed_append (c ∷ []) s (formed_byte c (ltb-true c 128 h.0)) (formed_ascii s h.1)

pub formed_decimal : (n : ℕ) → well_formed (decimal n) ≡ true
formed_decimal = decimal_ind (λ n. well_formed (decimal n) ≡ true) one more
  where
    one : (n : ℕ) → n < 10 → well_formed (decimal n) ≡ true
    one n h = rw (decimal_one n h) (formed_byte (48 + n) (omega arith))

    more : (n : ℕ) → 10 ≤ n → well_formed (decimal (n / 10)) ≡ true → well_formed (decimal n) ≡ true
    more n h f = rw (decimal_more n h) (formed_append (decimal (n / 10)) ((48 + n % 10) ∷ []) f (formed_byte (48 + n % 10) (omega arith)))

-- ---- what may be listed
and_both : {a b : Bool} → a ≡ true → b ≡ true → a && b ≡ true
and_both {a = true} p q = q
and_both {a = false} p q = p

sound_is : (n : ℕ) (e : Edge) → Sound n e → sound n e ≡ true
unfolding sound
sound_is n e q = and_both (and_both (and_both (lt-ltb e.start e.end q.rises) (le-leb e.end n q.within)) (and_both q.type q.txt)) q.num

-- ---- what a place leads to, as an edge of the call
abbrev MadeCall : ℕ → Outcome → Type 0
MadeCall n (made e is) = CallEdge n e
MadeCall n nothing = Unit {0}

-- ---- a percentage
module _ {n : ℕ} (few : n ≤ 256) where
  pub percent_call : (s z : ℕ) (x : Text) → s < z → z ≤ n → well_formed x ≡ true → length x ≤ 300 → CallEdge n (percent_edge s z x)
  percent_call s z x rises within formed short =
      let l = length-append x (37 ∷ []) in
      record {
        legal = record {
          fits = record { start = omega arith; end = omega arith; type = omega arith; txt = omega arith; num = λ y p. absurd (none_some p) };
          map = allowed_map none;
          content = sound_is n (percent_edge s z x) (record { rises = rises; within = within; type = formed_ascii percentage_type refl; txt = formed_append x (37 ∷ []) formed (formed_ascii (37 ∷ []) refl); num = refl });
        };
        short = λ y p. absurd (none_some p);
        value = λ y b p d v. absurd (none_some p);
      }

  -- ---- a fraction
  script_formed : (o : Option Numeric) → each sound_numeric o ≡ true → each well_formed (script_of o) ≡ true
  unfolding sound_numeric
  script_formed none h = refl
  script_formed (some x) h =
      let a = sound_numbers x.fraction x.base x.decimals && well_formed x.orig in
      (and-true a (each well_formed x.script) (and-true (a && each well_formed x.script) (each well_formed x.value_s) h).0).1

  script_short : (r : Edge) → CallEdge n r → (t : Text) → script_of r.num ≡ some t → length t ≤ 60
  script_short r c t p = go r.num refl p
    where
      go : (o : Option Numeric) → r.num ≡ o → script_of o ≡ some t → length t ≤ 60
      go none q s = absurd (none_some s)
      go (some x) q s = (c.short x q).script t s

  fraction_sound : (rv lv : ℕ) → rv ≤ TOP → lv ≤ TOP → 0 < lv → sound_fraction (lowest (rv, lv)) ≡ true
  fraction_sound rv lv h k g =
      let m = lowest_at_most rv lv in
      and_both (and_both (le-leb _ _ (le_trans m.0 h)) (le-leb _ _ (le_trans m.1 k))) (lt-ltb _ _ (lowest_positive rv lv g))

  pub fraction_call : (l r : Edge) (lv rv : ℕ) → CallEdge n r → l.start < r.end → lv ≤ TOP → rv ≤ TOP → 0 < lv → CallEdge n (fraction_edge l lv r rv)
  unfolding fraction_edge sound_numeric
  fraction_call l r lv rv c rises small right g =
      let q = sound_of n r c.legal.content in
      let w = q.within in
      let a = length_decimal_top lv small in
      let b = length_decimal_top rv right in
      let z = length-append (decimal rv) (47 ∷ decimal lv) in
      let m = lowest_at_most rv lv in
      let formed = formed_append (decimal rv) (47 ∷ decimal lv) (formed_decimal rv) (formed_append (47 ∷ []) (decimal lv) (formed_ascii (47 ∷ []) refl) (formed_decimal lv)) in
      let short = script_short r c in
      record {
        legal = record {
          fits = record {
            start = omega arith;
            end = omega arith;
            type = omega arith;
            txt = omega arith;
            num = λ y p. subst NumericFits (some_inj p) (record {
              orig = omega arith;
              value = λ v e. absurd (none_some e);
              fraction = λ f e. subst (λ (x : ℕ × ℕ). (x.0 < 2 ^ 64) × (x.1 < 2 ^ 64)) (some_inj e) (omega (arith, m.0), omega (arith, m.1));
              base = λ v e. absurd (none_some e);
              mult = λ v e. absurd (none_some e);
              script = λ t e. omega (arith, short t e);
              value_s = λ t e. absurd (none_some e);
              decimals = λ v e. absurd (none_some e);
            });
          };
          map = allowed_map (fraction_edge l lv r rv).num;
          content = sound_is n (fraction_edge l lv r rv) (record {
            rises = rises;
            within = w;
            type = formed_ascii fraction_type refl;
            txt = formed;
            num = and_both (and_both (and_both (and_both (and_both (fraction_sound rv lv right small g) refl) refl) formed) (script_formed r.num q.num)) refl;
          });
        };
        short = λ y p. subst (Short (fraction_edge l lv r rv)) (some_inj p) (record {
          type = omega arith;
          txt = omega arith;
          orig = omega arith;
          script = short;
          value_s = λ t e. absurd (none_some e);
        });
        value = λ y v p d e. absurd (none_some (ap (λ (x : Numeric). x.value) (some_inj p) ∙ e));
      }

  -- ---- what a marker leads to
  value_small : (e : Edge) → CallEdge n e → (v : ℕ) → whole_value e ≡ some v → v ≤ TOP
  value_small e c v p = let k = value_is e c (v, p) in let a : v ≡ k.whole = sym (ap number_or p) ∙ k.is in let s = k.small in omega arith

  otherwise_call : (percent : Bool) (p : ℕ) (b : Best) → OfBest (λ x. CallEdge n x.1 × (p ≤ x.1.start)) b → MadeCall n (otherwise percent p b)
  otherwise_call percent p none h = tt
  otherwise_call percent p (some (i, r)) (c, at) =
      cond_cases (MadeCall n) (percent && is_numeric r)
      (λ t.
      let q = sound_of n r c.legal.content in
      let a = q.rises in
      let s = txt_short c (and-true percent (is_numeric r) t).1 in
      percent_call p r.end r.txt (omega arith) q.within q.txt (omega arith))
      (λ t. tt)

  module _ (percent : Bool) (other : Outcome) (ok : MadeCall n other) (i : ℕ) (l : Edge) (j : ℕ) (r : Edge) (c : CallEdge n l) (d : CallEdge n r) (touch : l.end ≤ r.start) where
    both_call : (lv rv : ℕ) → lv ≤ TOP → rv ≤ TOP → MadeCall n (both percent other i l lv j r rv)
    both_call lv rv h k =
        let q = sound_of n r d.legal.content in
        let a = q.rises in
        let b = (sound_of n l c.legal.content).rises in
        let s = length_decimal_top rv k in
        cond_cases (MadeCall n) (eqb lv 100) (λ t. percent_call l.start r.end (decimal rv) (omega arith) q.within (formed_decimal rv) (omega arith))
        (λ t. cond_cases (MadeCall n) (not percent && not (eqb lv 0)) (λ u. fraction_call l r lv rv d (omega arith) h k (above lv (and-true (not percent) (not (eqb lv 0)) u).1)) (λ u. ok))
      where
        above : (v : ℕ) → not (eqb v 0) ≡ true → 0 < v
        above zero e = absurd (true≢false (sym e))
        above (suc v) e = omega arith

    values_call : (x y : Option ℕ) → whole_value l ≡ x → whole_value r ≡ y → MadeCall n (with_values percent other i l x j r y)
    values_call none y p q = ok
    values_call (some lv) none p q = ok
    values_call (some lv) (some rv) p q = both_call lv rv (value_small l c lv p) (value_small r d rv q)

  between_call : (percent : Bool) (other : Outcome) → MadeCall n other → (p k : ℕ) (b z : Best) → OfBest (λ x. CallEdge n x.1 × (x.1.end ≡ p)) b → OfBest (λ x. CallEdge n x.1 × (p ≤ x.1.start)) z
      → MadeCall n (between percent other b z)
  between_call percent other ok p k none z h g = ok
  between_call percent other ok p k (some l) none h g = ok
  between_call percent other ok p k (some (i, l)) (some (j, r)) (c, at) (d, from) = values_call percent other ok i l j r c d (omega arith) (whole_value l) (whole_value r) refl refl

-- ---- the neighbours of a place
hold_both : (P Q : ℕ × Edge → Type 0) (b : Best) → OfBest P b → OfBest Q b → OfBest (λ x. P x × Q x) b
hold_both P Q none p q = tt
hold_both P Q (some x) p q = (p, q)

each_numbered : (P : Edge → Type 0) (i : ℕ) (es : List Edge) → Every P es → Each (λ x. P x.1) (numbered i es)
unfolding numbered
each_numbered P i [] nil = tt
each_numbered P i (e ∷ es) (cons p h) = (p, each_numbered P (suc i) es h)

left_end : (p : Place) (a z : ℕ) → asked (Left p) a z ≡ true → z ≡ p.0
unfolding asked
left_end p a z t = eqb-true z p.0 t

-- what holds of each edge holds of them
module _ (P : Edge → Type 0) (es : List Edge) (c : Every P es) (p : ℕ) where
  pub right_holds : (q : ℕ) → p ≤ q → OfBest (λ x. P x.1 × (p ≤ x.1.start)) (right_neighbor false es q)
  right_holds q h =
      let place : Place = record { 0 = q } in
      hold_both (λ x. P x.1) (λ x. p ≤ x.1.start) (right_neighbor false es q) (best_holds false (Right place) (λ x. P x.1) (numbered 0 es) (each_numbered P 0 es c))
      (hold_more (λ x. 0 < score false (Right place) x.1) (λ x. p ≤ x.1.start) (right_neighbor false es q) (λ x s. let e = right_start place x.1.start x.1.end (score_asks false (Right place) x.1 s) in omega arith) (best_positive false (Right place) (numbered 0 es)))

  pub left_holds : OfBest (λ x. P x.1 × (x.1.end ≡ p)) (left_neighbor false es p)
  left_holds =
      let place : Place = record { 0 = p } in
      hold_both (λ x. P x.1) (λ x. x.1.end ≡ p) (left_neighbor false es p) (best_holds false (Left place) (λ x. P x.1) (numbered 0 es) (each_numbered P 0 es c))
      (hold_more (λ x. 0 < score false (Left place) x.1) (λ x. x.1.end ≡ p) (left_neighbor false es p) (λ x s. left_end place x.1.start x.1.end (score_asks false (Left place) x.1 s)) (best_positive false (Left place) (numbered 0 es)))

module _ {n : ℕ} (es : List Edge) (c : CallEdges n es) (p : ℕ) where
  marked_call : n ≤ 256 → (percent : Bool) (k : ℕ) → MadeCall n (marked percent es p k)
  unfolding marked
  marked_call few percent k =
      let r = right_holds (CallEdge n) es c p (p + k) (omega arith) in
      between_call few percent (otherwise percent p (right_neighbor false es (p + k))) (otherwise_call few percent p (right_neighbor false es (p + k)) r) p k (left_neighbor false es p) (right_neighbor false es (p + k)) (left_holds (CallEdge n) es c p) r

  by_marker_call : n ≤ 256 → (m : Marker) → MadeCall n (by_marker es p m)
  by_marker_call few (percentage k) = marked_call few true k
  by_marker_call few (connector k) = marked_call few false k
  by_marker_call few no_marker = tt

  made_call : n ≤ 256 → (t : Table) (w : List ℕ) → MadeCall n (outcome_at t w es p)
  unfolding outcome_at
  made_call few t w = by_marker_call few (marker_at t w p)

-- ---- the stage
one_new : {n : ℕ} (m : Outcome) (ms : List Outcome) → MadeCall n m → CallEdges n (new_edges ms) → CallEdges n (new_edges (m ∷ ms))
unfolding new_edges
one_new (made e is) ms c h = cons c h
one_new nothing ms c h = h

pub new_call : {n : ℕ} (t : Table) (w : List ℕ) (es : List Edge) → n ≤ 256 → CallEdges n es → (p k : ℕ) → CallEdges n (new_edges (outcomes_from t w es p k))
unfolding outcomes_from new_edges
new_call t w es few c p zero = nil
new_call t w es few c p (suc k) = one_new (outcome_at t w es p) (outcomes_from t w es (suc p) k) (made_call es c p few t w) (new_call t w es few c (suc p) k)

pub fractions_call : {n : ℕ} (t : Table) (w : List ℕ) (es : List Edge) → n ≤ 256 → CallEdges n es → CallEdges n (fractions t w es)
unfolding fractions
fractions_call t w es few c =
    let ms = outcomes_from t w es 0 (length w) in
    add_all_call (turn_off_call (used_edges ms) c) (new_call t w es few c 0 (length w))
