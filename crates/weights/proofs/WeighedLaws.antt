-- The weights of a line (`specs/Weighed.antt`), and what the call answers and stores, case by case.
-- In order: the weights by any reading; no weight is above the value; products that stop counting above TOP; what S-4 says of the line; the answers.
use Prim.Native.Nat.{ℕ, zero, suc, ◌*◌, ◌/◌, ◌≤◌, ◌<◌}
use mathlib.Core.Path.{◌≡◌, refl, sym, ap, ◌∙◌}
use mathlib.Core.Bool.{Bool, true, false, cond}
use mathlib.Core.List.{List, [], ◌∷◌, map}
use mathlib.Core.Option.{Option, none, some, some-ne-none}
use native.Mathlib.Omega.{arith}
use native.Mathlib.Nat.{mul-le-mul_right}
use lib.Dec.{leb}
use lib.ListN.{length, get_or}
use lib.Seq.{sets}
use borrow.Author.Tests.{lt-ltb, le-ltb}
use Rattle.text.specs.Text.{chars, well_formed, encodes}
use Rattle.text.specs.Line.{line_check}
use Rattle.text.specs.declared.Offset.{Offset}
use Rattle.text.proofs.TextLaws.{well_formed_split}
use Rattle.whole.specs.Whole.{TOP}
use Rattle.grammar.specs.Plain.{Char, Large, digit, ten, large, 万, 億, 兆, digit_value, large_value, utf8}
use Rattle.grammar.specs.Grammar.{plainly, Reading, division_value}
use Rattle.table_grammar.proofs.Readings.{same_division}
use Rattle.table_grammar.proofs.Tests.{true_le}
use Rattle.numeral.specs.Numeral.{numeral_of}
use Rattle.numeral.specs.Field.{plain_line, plain_field, checked, field_of}
use Rattle.numeral.specs.Walk.{capped, glyph}
use Rattle.numeral.proofs.OneNumber.{reading_value, numeral_of_lem}
use Rattle.numeral.proofs.AnswerLaws.{yes_of, no_of}
use Rattle.numeral.proofs.FieldLaws.{line_plain}
use Rattle.weights.specs.declared.units.Units.{Units}
use Rattle.weights.specs.Weights.{is_nine, nines, weights, sum}
use Rattle.weights.specs.Weighed.{value_weights, char_weights, plain_weights, line_weights, weighed, weigh, weights_bytes, stored, output}
use Rattle.weights.specs.Walk.{is_weighed, before, back, found, start, after_large, last_unit}
use Rattle.weights.proofs.WrongDigit.{numeral_value, one_weight_each}
use Rattle.weights.proofs.WalkLaws.{exact, found_weights}
use Rattle.std.specs.Prelude.{Some, None, Result, Ok, Err}
use Rattle.std.specs.Prelude as std
use Rattle.numeral.specs.declared.FieldRefusal.{FieldRefusal}
use Rattle.text.specs.declared.LineRefusal.{LineRefusal}
use Rattle.weights.specs.declared.WeighRefusal.{WeighRefusal}

-- ---- the weights of a numeral, by any reading; and of any other row of characters
pub by_reading : (w : List Char) (r : Reading w) → char_weights w ≡ weights r.division
unfolding char_weights
by_reading w r = go (numeral_of w) refl
  where
    go : (o : Option ℕ) (e : numeral_of w ≡ o) → value_weights w o e ≡ weights r.division
    go none e = absurd (some-ne-none _ (sym (reading_value w r) ∙ e))
    go (some v) e = ap weights (same_division plainly w ((numeral_of_lem w v).0 e).0 r)

pub without_value : (w : List Char) → numeral_of w ≡ none → char_weights w ≡ []
unfolding char_weights
without_value w h = go (numeral_of w) refl h
  where
    go : (o : Option ℕ) (e : numeral_of w ≡ o) → o ≡ none → value_weights w o e ≡ []
    go none e k = refl
    go (some v) e k = absurd (some-ne-none v k)

-- ---- no weight is above the value
abbrev Positive : List ℕ → Type 0
Positive [] = Unit {0}
Positive (n ∷ ns) = (1 ≤ n) × Positive ns

nines_positive : (w : List Char) → Positive (nines w)
nines_positive [] = tt
nines_positive (digit d ∷ w) = go (is_nine d) refl (nines_positive w)
  where
    go : (b : Bool) → is_nine d ≡ b → Positive (nines w) → Positive (cond b (digit_value d ∷ nines w) (nines w))
    go true e h = (true_le 1 (digit_value d) e, h)
    go false e h = h
nines_positive (ten t ∷ w) = nines_positive w
nines_positive (large l ∷ w) = nines_positive w

term_within : (ns ks : List ℕ) → Positive ns → length ks ≡ length ns → (i : ℕ) → get_or ks i 0 ≤ sum ns ks
term_within ns [] p e i = omega arith
term_within [] (k ∷ ks) p e i = absurd (omega arith)
term_within (n ∷ ns) (k ∷ ks) p e zero = omega (arith, mul-le-mul_right k p.0)
term_within (n ∷ ns) (k ∷ ks) p e (suc i) = omega (arith, term_within ns ks p.1 (omega arith) i)

pub weight_within : (w : List Char) (r : Reading w) (i : ℕ) → get_or (weights r.division) i 0 ≤ division_value r.division
weight_within w r i = omega (arith, numeral_value w r, term_within (nines w) (weights r.division) (nines_positive w) (one_weight_each w r) i)

-- ---- products that stop counting above TOP
abbrev cap_units : Units → Units
cap_units u = record { digit = capped u.digit; member = u.member }

large_small : (l : Large) → large_value l ≡ capped (large_value l)
large_small 万 = omega arith
large_small 億 = omega arith
large_small 兆 = omega arith

ten_times : (n : ℕ) → capped (10 * capped n) ≡ capped (10 * n)
ten_times n = omega arith

cap_before : (u : Units) (c : Char) → before capped (cap_units u) (glyph c) ≡ cap_units (before exact u (glyph c))
cap_before u (digit d) = rw (ten_times u.digit)
cap_before u (ten t) = refl
cap_before u (large l) = rw (← (large_small l))

cap_back : (w : List Char) (u : Units) → back capped w (cap_units u) ≡ cap_units (back exact w u)
cap_back [] u = refl
cap_back (c ∷ w) u = ap (λ (x : Units). before capped x (glyph c)) (cap_back w u) ∙ cap_before (back exact w u) c

cap_if : (b : Bool) (n : ℕ) (ks : List ℕ) → cond b (capped n ∷ map capped ks) (map capped ks) ≡ map capped (cond b (n ∷ ks) ks)
cap_if true n ks = refl
cap_if false n ks = refl

cap_found : (w : List Char) (u : Units) → found capped w (cap_units u) ≡ map capped (found exact w u)
cap_found [] u = refl
cap_found (c ∷ w) u = rw (cap_back w u, cap_found w u) (cap_if (is_weighed (glyph c)) (back exact w u).digit (found exact w u))

-- what the last place weighs is small
after_small : (c : Char) → after_large (glyph c) ≤ TOP
after_small (digit d) = omega arith
after_small (ten t) = omega arith
after_small (large 万) = omega arith
after_small (large 億) = omega arith
after_small (large 兆) = omega arith

either_small : (b : Bool) (n : ℕ) → n ≤ TOP → cond b n 1 ≤ TOP
either_small true n h = h
either_small false n h = omega arith

unit_small : (w : List Char) → last_unit w ≤ TOP
unit_small [] = omega arith
unit_small (a ∷ []) = omega arith
unit_small (a ∷ b ∷ []) = either_small (is_weighed (glyph b)) (after_large (glyph a)) (after_small a)
unit_small (a ∷ b ∷ c ∷ w) = unit_small (b ∷ c ∷ w)

map_small : (ks : List ℕ) → ((i : ℕ) → get_or ks i 0 ≤ TOP) → map capped ks ≡ ks
map_small [] h = refl
map_small (k ∷ ks) h = let e : capped k ≡ k = omega (arith, h 0) in rw (e, map_small ks (λ i. h (suc i)))

-- so the code finds the weights of a numeral up to TOP
pub capped_weights : (w : List Char) (r : Reading w) → division_value r.division ≤ TOP → found capped w (start (last_unit w)) ≡ char_weights w
capped_weights w r h =
    let e : last_unit w ≡ capped (last_unit w) = omega (arith, unit_small w) in
    ap (λ (n : ℕ). found capped w (start n)) e ∙ cap_found w (start (last_unit w)) ∙ ap (map capped) (found_weights w r)
    ∙ map_small (weights r.division) (λ i. omega (arith, h, weight_within w r i)) ∙ sym (by_reading w r)

-- ---- what S-4 says of the line
pub record Numeral (line : List ℕ) : Type 0 where
  pub row : List Char
  pub bytes : line ≡ utf8 row
  pub reading : Reading row
  pub within : division_value reading.division ≤ TOP
  pub plain : plain_line (chars line) ≡ some row

line_row : (line : List ℕ) (w : List Char) → well_formed line ≡ true → plain_line (chars line) ≡ some w → line ≡ utf8 w
unfolding utf8
line_row line w f e = well_formed_split line f ∙ ap encodes (line_plain (chars line) w e)

pub is_numeral : (line : List ℕ) (v : ℕ) → field_of line ≡ Ok (Some v) → Numeral line
unfolding field_of
is_numeral line v h = go (well_formed line) refl (leb (length (chars line)) 256) _ _ _ h
  where
    of_row : well_formed line ≡ true → (o : Option (List Char)) → plain_line (chars line) ≡ o → plain_field o ≡ Ok (Some v) → Numeral line
    of_row f none e k = absurd cc
    of_row f (some w) e k =
        let (q, l) = (yes_of (numeral_of w) v).0 k in
        let (r, i) = (numeral_of_lem w v).0 q in
        record { row = w; bytes = line_row line w f e; reading = r; within = omega (arith, i); plain = e }

    go : (t : Bool) → well_formed line ≡ t → (s : Bool) (n : ℕ) (y z : Offset) → checked (cond t (cond s (Ok n) (Err (LineRefusal.TooLong y))) (Err (LineRefusal.IllFormed z))) (plain_field (plain_line (chars line))) ≡ Ok (Some v) → Numeral line
    go false f s n y z k = absurd cc
    go true f false n y z k = absurd cc
    go true f true n y z k = of_row f (plain_line (chars line)) refl k

no_weights : (line : List ℕ) → field_of line ≡ Ok None → line_weights line ≡ []
unfolding field_of
no_weights line h = go (plain_line (chars line)) (unchecked (line_check line) _ h)
  where
    unchecked : (c : Result ℕ LineRefusal) (f : Result (std.Option ℕ) FieldRefusal) → checked c f ≡ Ok None → f ≡ Ok None
    unchecked (Ok n) f k = k
    unchecked (Err (LineRefusal.IllFormed at)) f k = absurd cc
    unchecked (Err (LineRefusal.TooLong at)) f k = absurd cc

    go : (o : Option (List Char)) → plain_field o ≡ Ok None → plain_weights o ≡ []
    go none k = refl
    go (some w) k = without_value w ((no_of (numeral_of w)).0 k)

-- ---- the answer r, and what is in the output s afterwards
abbrev pub Answers : List ℕ → List ℕ → Result ℕ WeighRefusal → List ℕ → Type 0
Answers line s r t = (r ≡ weigh line (length s)) × (t ≡ output line s)

answers : (line s : List ℕ) (r : Result ℕ WeighRefusal) → r ≡ weigh line (length s) → Answers line s r (stored (line_weights line) s r)
answers line s r e = (e, ap (stored (line_weights line) s) e)

pub by_field : (line s : List ℕ) {f : Result (std.Option ℕ) FieldRefusal} → field_of line ≡ f → weighed f (length (line_weights line)) (length s) ≡ weigh line (length s)
unfolding weigh
by_field line s e = rw e

module _ (line s : List ℕ) {f : Result (std.Option ℕ) FieldRefusal} (is : f ≡ field_of line) where
  pub refused : (r : FieldRefusal) → f ≡ Err r → Answers line s (Err (WeighRefusal.Field r)) s
  refused r q = answers line s (Err (WeighRefusal.Field r)) (by_field line s (sym is ∙ q))

  pub no_numeral : f ≡ Ok None → Answers line s (Ok 0) s
  no_numeral q =
      let e : (Ok 0) ≡ weigh line (length s) = by_field line s (sym is ∙ q) in
      (e, ap (λ (ks : List ℕ). sets s 0 (weights_bytes ks)) (sym (no_weights line (sym is ∙ q))) ∙ ap (stored (line_weights line) s) e)

-- a numeral up to TOP, of n 一 to 九
module _ (line s : List ℕ) (v : ℕ) (is : field_of line ≡ Ok (Some v)) {n : ℕ} (count : (w : List Char) → line ≡ utf8 w → n ≡ length (nines w)) where
  pub row_there : (w : List Char) × (line ≡ utf8 w) × (n ≡ length (nines w))
  row_there = let m = is_numeral line v is in (m.row, m.bytes, count m.row m.bytes)

  weights_are : char_weights (is_numeral line v is).row ≡ line_weights line
  weights_are = ap plain_weights (sym (is_numeral line v is).plain)

  as_many : n ≡ length (line_weights line)
  as_many =
      let m = is_numeral line v is in
      count m.row m.bytes ∙ sym (one_weight_each m.row m.reading) ∙ ap length (sym (by_reading m.row m.reading) ∙ weights_are)

  pub too_short : length s / 8 < n → Answers line s (Err WeighRefusal.TooShort) s
  too_short h =
      answers line s (Err WeighRefusal.TooShort)
      (ap (λ (b : Bool). cond b (Err WeighRefusal.TooShort) (Ok (length (line_weights line)))) (sym (lt-ltb (length s) (8 * length (line_weights line)) (omega (arith, as_many)))) ∙ by_field line s is)

  pub all_written : n ≤ length s / 8 → (t : List ℕ) → ((w : List Char) → line ≡ utf8 w → t ≡ sets s 0 (weights_bytes (found capped w (start (last_unit w))))) → Answers line s (Ok n) t
  all_written h t o =
      let m = is_numeral line v is in
      let e : (Ok n) ≡ weigh line (length s) =
      ap Ok as_many ∙ ap (λ (b : Bool). cond b (Err WeighRefusal.TooShort) (Ok (length (line_weights line)))) (sym (le-ltb (length s) (8 * length (line_weights line)) (omega (arith, as_many)))) ∙ by_field line s is in
      (e, o m.row m.bytes ∙ ap (λ (ks : List ℕ). sets s 0 (weights_bytes ks)) (capped_weights m.row m.reading m.within ∙ weights_are) ∙ ap (stored (line_weights line) s) e)
