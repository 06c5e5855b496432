-- The stored edge of a character (specs/CharStored.antt) stands for the definition's edge, and is well made and small, where its record is legal. No contract cites this file.
-- In order: texts of one character; numbers that may be absent; the edge; the marks; the bounds.
-- Assumes nothing.
use mathlib.Core.Path.{◌≡◌, refl, sym, ap, ◌∙◌}
use mathlib.Core.Bool.{Bool, true, false, cond, ◌&&◌, true≢false}
use mathlib.Core.Bool as bool
use mathlib.Core.List.{List, [], ◌∷◌}
use mathlib.Core.Option
use mathlib.Core.Option.{Option, none, some}
use Prim.Native.Nat.{ℕ, suc, ◌+◌, ◌-◌, ◌%◌, ◌≤◌, ◌<◌}
use native.Mathlib.Numerals.{add-one}
use native.Mathlib.Omega.{arith}
use lib.ListN.{length, get_or}
use lib.Seq.{drop-cons}
use lib.Dec.{leb, ltb, eqb}
use borrow.Author.Tests.{eq-eqb, leb-true, eqb-true, eqb-false}
use Rattle.whole.specs.Whole.{TOP}
use Rattle.whole.specs.Decimal.{padded}
use Rattle.text.specs.Bytes.{same}
use Rattle.text.specs.Sequence.{scalar, encode}
use Rattle.text.specs.Text.{Scalars}
use Rattle.text.proofs.BytesLaws.{same_refl, same_true}
use Rattle.text.proofs.RowLaws.{and-true}
use Rattle.text.proofs.TextLaws.{encodes_injective, scalars_at, encodes_one}
use Rattle.table.specs.Table.{Text, Record}
use Rattle.table.specs.Layout.{Is, bit, numbers_in, read_record}
use Rattle.table.specs.Check.{is_digit_type, all_of, small, positive, legal_digit, digit_rule, legal_numbers, legal_texts, legal_code_point, legal_record}
use Rattle.fields.specs.Part.{part_of}
use Rattle.table.specs.Answers.{optionally, record_of}
use Rattle.table.specs.declared.layout.NumProp.{NumProp}
use Rattle.passes.specs.NumEdge.{NumEdge, or_zero, has}
use Rattle.passes.specs.Characters.{char_edge}
use Rattle.passes.specs.Passes as passes
use Rattle.passes.specs.Passes.{digit_edge, is_script, cjk}
use Rattle.pass_list.specs.StoredEdge.{StoredEdge, Small}
use Rattle.pass_list.specs.Edges.{between, edge_of, WellMade}
use Rattle.pass_list.specs.Kind.{kind_number}
use Rattle.numbers.proofs.SaysLaws.{legal_digit_lem}
use Rattle.characters.specs.CharStored.{number_if, char_stored}

-- ---- texts of one character
between_one : (w : List ℕ) (i : ℕ) → i < length w → between w i (i + 1) ≡ encode (get_or w i 0)
unfolding between
between_one w i h = let e : i + 1 - i ≡ 1 = omega arith in rw (e, drop-cons w i 0 h) (encodes_one (get_or w i 0))

encode_injective : (c d : ℕ) → scalar c ≡ true → scalar d ≡ true → encode c ≡ encode d → c ≡ d
encode_injective c d s r e =
    let q : c ∷ [] ≡ d ∷ [] = encodes_injective (c ∷ []) (d ∷ []) (s, tt) (r, tt) (encodes_one c ∙ e ∙ sym (encodes_one d)) in
    cc

same_encode : (c d : ℕ) → scalar c ≡ true → scalar d ≡ true → same (encode c) (encode d) ≡ eqb c d
same_encode c d s r = go (same (encode c) (encode d)) (eqb c d) refl refl
  where
    go : (a b : Bool) → same (encode c) (encode d) ≡ a → eqb c d ≡ b → a ≡ b
    go true true p q = refl
    go false false p q = refl
    go true false p q = absurd (eqb-false c d q (encode_injective c d s r (same_true (encode c) (encode d) p)))
    go false true p q = absurd (true≢false (sym (same_refl (encode d)) ∙ rw (ap encode (eqb-true c d q)) at p))

-- ---- numbers and texts that may be absent
optionally_number : (b : Bool) (n : ℕ) → optionally b (number_if b n) ≡ optionally b n
optionally_number true n = refl
optionally_number false n = refl

absent : (b : Bool) (n : ℕ) → b ≡ false → number_if b n ≡ 0
absent b n e = rw e

has_number : (b : Bool) (n : ℕ) → has (optionally b n) ≡ b
has_number true n = refl
has_number false n = refl

or_zero_lem : (b : Bool) (n : ℕ) → or_zero (optionally b n) ≡ number_if b n
or_zero_lem true n = refl
or_zero_lem false n = refl

script_is : (b : Bool) (s t : Text) → is_script (optionally b s) t ≡ (b && same s t)
script_is true s t = refl
script_is false s t = refl

small_number : (b : Bool) (n : ℕ) → all_of small (optionally b n) ≡ true → number_if b n ≤ TOP
unfolding all_of
small_number true n h = leb-true n TOP h
small_number false n h = omega arith

positive_number : (b : Bool) (n : ℕ) → all_of positive (optionally b n) ≡ true → number_if b n ≤ TOP
unfolding all_of
positive_number true n h = leb-true n TOP (and-true (ltb 0 n) (small n) h).1
positive_number false n h = omega arith

-- ---- the table's rule for digits (cause 5)
padded_one : (n : ℕ) → leb n 9 ≡ true → padded 1 n ≡ (48 + n) ∷ []
unfolding padded
padded_one n h = let l = leb-true n 9 h in let e : n % 10 ≡ n = omega arith in rw e

-- a record of type ty, with the value n where b holds: what its txt is if it is a digit
digit_txt : (ty : Text) (b : Bool) (n : ℕ) (rom : Option Text) (other : Text) → cond (is_digit_type ty) (legal_digit (optionally b n) rom) true ≡ true
    → (is_digit_type ty && b && leb (number_if b n) 9) ≡ true → Option.get_or rom other ≡ padded 1 (number_if b n)
digit_txt ty b n rom other h d =
    let low = and-true (is_digit_type ty && b) (leb (number_if b n) 9) d in
    let there = and-true (is_digit_type ty) b low.0 in
    let is : rom ≡ some ((48 + or_zero (optionally b n)) ∷ []) = legal_digit_lem (optionally b n) rom (rw there.0 at h) (has_number b n ∙ there.1) (rw (or_zero_lem b n) low.1) in
    rw (is, or_zero_lem b n) (sym (padded_one (number_if b n) low.1))

-- ---- what a legal record says
pub legal_parts : (least : ℕ) (r : Record) → legal_record least r ≡ true → (legal_numbers (numbers_in r) ≡ true) × (digit_rule r ≡ true)
unfolding legal_record
legal_parts least r h = and-true (legal_numbers (numbers_in r)) (digit_rule r) (and-true (legal_texts r) _ (and-true (legal_code_point least r.code_point) _ h).1).1

-- ---- one character: c stands at place i of the line w, the record p that is read at the offset at of the table t is its record, and b says whether a point that counts follows
module _ (w t : List ℕ) (p : NumProp) (at i c : ℕ) (b : Bool) where
  abbrev stored_edge : StoredEdge
  stored_edge = char_stored t p at i c b

  module _ (inside : i < length w) (here : get_or w i 0 ≡ c) (reads : Is (record_of t p) p.next ≡ read_record t at) where
    here_text : between w i (i + 1) ≡ encode c
    here_text = between_one w i inside ∙ ap encode here

    pub char_edge_is : edge_of w t stored_edge ≡ char_edge i c (record_of t p)
    unfolding edge_of char_stored char_edge record_of
    char_edge_is =
        rw (
          here_text,
          ← reads,
          add-one,
          optionally_number (bit p.map 1) p.numbers.value,
          optionally_number (bit p.map 3) p.numbers.base,
          optionally_number (bit p.map 4) p.numbers.mult,
        )

    -- ---- the marks
    digit_is : digit_edge (char_edge i c (record_of t p)) ≡ stored_edge.digit
    unfolding digit_edge char_edge char_stored record_of
    digit_is =
        let one : eqb (suc i) (suc i) ≡ true = eq-eqb (suc i) (suc i) refl in
        rw (one, bool.and-true, has_number (bit p.map 1) p.numbers.value, or_zero_lem (bit p.map 1) p.numbers.value)

    module _ (scalars : Scalars w) where
      here_scalar : scalar c ≡ true
      here_scalar = rw here at (scalars_at i w scalars inside)

      gap_is : passes.gap (char_edge i c (record_of t p)) ≡ stored_edge.gap
      unfolding passes.gap char_edge char_stored
      gap_is = rw (same_encode c 0x96F6 here_scalar refl, same_encode c 0x3007 here_scalar refl)

      script_same : is_script (char_edge i c (record_of t p)).script cjk ≡ stored_edge.cjk
      unfolding char_edge char_stored record_of
      script_same = script_is (bit p.map 5) (part_of t p.script) cjk

      digit_text : digit_rule (record_of t p) ≡ true → stored_edge.digit ≡ true → (char_edge i c (record_of t p)).txt ≡ padded (i + 1 - i) stored_edge.value
      unfolding char_edge char_stored record_of digit_rule
      digit_text legal d =
          let one : i + 1 - i ≡ 1 = omega arith in
          rw one (digit_txt (part_of t p.num_type) (bit p.map 1) p.numbers.value (optionally (bit p.map 0) (part_of t p.rom)) (encode c) legal d)

      pub char_made : (point : ℕ → Bool) → b ≡ point (i + 1) → digit_rule (record_of t p) ≡ true → WellMade point w t stored_edge
      unfolding char_stored
      char_made point marked legal = record {
        ordered = omega arith;
        inside = omega arith;
        value_absent = absent (bit p.map 1) p.numbers.value;
        base_absent = absent (bit p.map 3) p.numbers.base;
        digit = ap digit_edge char_edge_is ∙ digit_is;
        gap = ap passes.gap char_edge_is ∙ gap_is;
        script = ap (λ (e : NumEdge). is_script e.script cjk) char_edge_is ∙ script_same;
        digit_text = λ d. ap (λ (e : NumEdge). e.txt) char_edge_is ∙ digit_text legal d;
        digit_whole = λ d. refl;
        few_decimals = omega arith;
        decimals_inside = λ h. absurd (omega arith);
        mark = marked;
        point_before = λ h. absurd (omega arith);
      }

-- ---- the bounds
module _ (t : List ℕ) (p : NumProp) (at i c : ℕ) (b : Bool) where
  pub char_kind : kind_number (char_stored t p at i c b).kind ≡ 0
  unfolding char_stored
  char_kind = refl

  pub char_whole : (char_stored t p at i c b).decimals ≡ 0
  unfolding char_stored
  char_whole = refl

  pub char_small : legal_numbers (numbers_in (record_of t p)) ≡ true → Small (char_stored t p at i c b)
  unfolding legal_numbers record_of char_stored
  char_small h =
      let mult = and-true _ (all_of small (optionally (bit p.map 4) p.numbers.mult)) h in
      let base = and-true _ (all_of positive (optionally (bit p.map 3) p.numbers.base)) mult.0 in
      let value = and-true (all_of small (optionally (bit p.map 1) p.numbers.value)) _ base.0 in
      record {
        value = small_number (bit p.map 1) p.numbers.value value.0;
        base = positive_number (bit p.map 3) p.numbers.base base.1;
        mult = small_number (bit p.map 4) p.numbers.mult mult.1;
      }
