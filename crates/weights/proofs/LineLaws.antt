-- A line of table characters, taken apart at a place, for the proofs of the code.
-- In order: the character at an offset; the 一 to 九 of a line counted; a line in two parts, and one character more or less before the place; its last two characters; one row for a line.
use Prim.Native.Nat.{ℕ, ◌+◌, ◌*◌, ◌-◌, ◌≤◌, ◌<◌}
use mathlib.Core.Path.{◌≡◌, refl, sym, ap, ◌∙◌}
use mathlib.Core.Bool.{Bool, true, false, cond}
use mathlib.Core.List.{List, [], ◌∷◌, ◌++◌, append-nil}
use mathlib.Core.Option.{some-injective}
use native.Mathlib.Omega.{arith}
use lib.ListN.{length, drop, length-append}
use lib.Seq.{drop_at, append_snoc}
use Rattle.fields.specs.Flag.{flag}
use Rattle.grammar.specs.Plain.{Char, digit, ten, large, utf8}
use Rattle.grammar.proofs.PlainText.{utf8_append, utf8_length, char_three}
use Rattle.numeral.specs.declared.Glyph.{Glyph}
use Rattle.numeral.specs.Walk.{glyph, glyph_if, glyph_at, plain_text}
use Rattle.numeral.proofs.WalkLaws.{of_bytes, text_of}
use Rattle.weights.specs.Weights.{is_nine, nines}
use Rattle.weights.specs.Walk.{is_weighed, unit_of_two, last_unit}
use Rattle.weights.proofs.WrongDigit.{nines_append}

-- ---- the character at an offset
first_glyph : (c : Char) (w : List Char) → glyph_at (utf8 (c ∷ w)) ≡ glyph c
first_glyph c w = ap glyph_at (utf8_append (c ∷ []) w ∙ ap (λ (t : List ℕ). t ++ utf8 w) (char_three c)) ∙ ap glyph_if (of_bytes c)

behind_part : (x y : List Char) → drop (3 * length x) (utf8 (x ++ y)) ≡ utf8 y
behind_part x y = ap (drop (3 * length x)) (utf8_append x y) ∙ drop_at (utf8 x) (utf8 y) (3 * length x) (utf8_length x)

glyph_behind : (x : List Char) (c : Char) (y : List Char) {line : List ℕ} {at : ℕ} {g : Glyph}
    → line ≡ utf8 (x ++ (c ∷ y)) → at ≡ 3 * length x → g ≡ glyph_at (drop at line) → g ≡ glyph c
glyph_behind x c y e p q = q ∙ rw (e, p) (ap glyph_at (behind_part x (c ∷ y)) ∙ first_glyph c y)

-- ---- the 一 to 九 counted
counted_if : (b : Bool) (n : ℕ) (l : List ℕ) → length (cond b (n ∷ l) l) ≡ flag b + length l
counted_if true n l = omega arith
counted_if false n l = omega arith

one_more_lem : (c : Char) (w : List Char) → length (nines (c ∷ w)) ≡ flag (is_weighed (glyph c)) + length (nines w)
one_more_lem (digit d) w = counted_if (is_nine d) _ (nines w)
one_more_lem (ten t) w = omega arith
one_more_lem (large l) w = omega arith

flag_within : (b : Bool) → flag b ≤ 1
flag_within true = omega arith
flag_within false = omega arith

pub nines_within : (w : List Char) → length (nines w) ≤ length w
nines_within [] = omega arith
nines_within (c ∷ w) = omega (arith, one_more_lem c w, flag_within (is_weighed (glyph c)), nines_within w)

count_append : (x y : List Char) → length (nines (x ++ y)) ≡ length (nines x) + length (nines y)
count_append x y = ap length (nines_append x y) ∙ length-append (nines x) (nines y)

-- ---- a line in two parts: at is the place between them, n the count of 一 to 九 before it
pub record Split (w : List Char) (at n : ℕ) : Type 0 where
  pub front : List Char
  pub rest : List Char
  pub whole : front ++ rest ≡ w
  pub place : at ≡ length front
  pub count : n ≡ length (nines front)

pub split_start : (w : List Char) → Split w 0 0
split_start w = record { front = []; rest = w; whole = refl; place = refl; count = refl }

-- the line's length
long : (w : List Char) {at n : ℕ} → (s : Split w at n) → length w ≡ at + length s.rest
long w s = omega (arith, ap length s.whole, length-append s.front s.rest, s.place)

-- the whole line before the place
pub all_counted : (w : List Char) {at n : ℕ} → Split w at n → length w ≤ at → n ≡ length (nines w)
all_counted w {n = n} s h = go s.rest refl
  where
    go : (y : List Char) → s.rest ≡ y → n ≡ length (nines w)
    go [] q = s.count ∙ ap (λ (v : List Char). length (nines v)) (sym (append-nil s.front) ∙ ap (λ (y : List Char). s.front ++ y) (sym q) ∙ s.whole)
    go (c ∷ y) q = absurd (omega (arith, long w s, ap length q))

-- one character more before the place
pub split_right : (w : List Char) {line : List ℕ} {at n k : ℕ} {g : Glyph} → line ≡ utf8 w → Split w at n → at < length w → g ≡ glyph_at (drop (3 * at) line)
    → k ≡ flag (is_weighed g) → Split w (at + 1) (n + k)
split_right w {line} {at} {n} {k} {g} e s h q f = go s.rest refl
  where
    go : (y : List Char) → s.rest ≡ y → Split w (at + 1) (n + k)
    go [] p = absurd (omega (arith, long w s, ap length p))
    go (c ∷ y) p =
        let whole : s.front ++ (c ∷ y) ≡ w = ap (λ (z : List Char). s.front ++ z) (sym p) ∙ s.whole in
        let is : g ≡ glyph c = glyph_behind s.front c y (e ∙ ap utf8 (sym whole)) (omega (arith, s.place)) q in
        record {
          front = s.front ++ (c ∷ []);
          rest = y;
          whole = append_snoc s.front c y ∙ whole;
          place = omega (arith, s.place, length-append s.front (c ∷ []));
          count = omega (arith, s.count, f, ap (λ (x : Glyph). flag (is_weighed x)) is, count_append s.front (c ∷ []), one_more_lem c []);
        }

-- ---- one character less before the place
pub record Left (w : List Char) (line : List ℕ) (at n : ℕ) (rest : List Char) : Type 0 where
  pub char : Char
  pub there : {g : Glyph} → g ≡ glyph_at (drop (3 * (at - 1)) line) → g ≡ glyph char
  pub fewer : flag (is_weighed (glyph char)) ≤ n
  pub split : Split w (at - 1) (n - flag (is_weighed (glyph char)))
  pub behind : split.rest ≡ char ∷ rest

last_char : (x : List Char) → 0 < length x → (y : List Char) × (c : Char) × (x ≡ y ++ (c ∷ []))
last_char [] h = absurd (omega arith)
last_char (c ∷ []) h = ([], c, refl)
last_char (c ∷ d ∷ x) h = let (y, e, q) = last_char (d ∷ x) (omega arith) in (c ∷ y, e, ap (λ (z : List Char). c ∷ z) q)

pub split_left : (w : List Char) {line : List ℕ} {at n : ℕ} → line ≡ utf8 w → (s : Split w at n) → 0 < at → Left w line at n s.rest
split_left w {line} {at} {n} e s h =
    let (x, c, q) = last_char s.front (omega (arith, s.place)) in
    let whole : x ++ (c ∷ s.rest) ≡ w = sym (append_snoc x c s.rest) ∙ ap (λ (z : List Char). z ++ s.rest) (sym q) ∙ s.whole in
    let len : length s.front ≡ length x + 1 = ap length q ∙ length-append x (c ∷ []) in
    let more : n ≡ length (nines x) + flag (is_weighed (glyph c)) = omega (arith, s.count, ap (λ (z : List Char). length (nines z)) q, count_append x (c ∷ []), one_more_lem c []) in
    let place : at - 1 ≡ length x = omega (arith, s.place, len) in
    record {
      char = c;
      there = glyph_behind x c s.rest (e ∙ ap utf8 (sym whole)) (omega (arith, place));
      fewer = omega (arith, more);
      split = record { front = x; rest = c ∷ s.rest; whole = whole; place = place; count = omega (arith, more) };
      behind = refl;
    }

-- the count before a place is at most that of the line
pub count_within : (w : List Char) {at n : ℕ} → Split w at n → n ≤ length (nines w)
count_within w s = omega (arith, s.count, count_append s.front s.rest, ap (λ (z : List Char). length (nines z)) s.whole)

-- ---- the last two characters
front_keeps : (c : Char) (v : List Char) → 2 ≤ length v → last_unit (c ∷ v) ≡ last_unit v
front_keeps c [] h = absurd (omega arith)
front_keeps c (a ∷ []) h = absurd (omega arith)
front_keeps c (a ∷ b ∷ v) h = refl

last_two : (x : List Char) (a b : Char) → last_unit (x ++ (a ∷ b ∷ [])) ≡ unit_of_two (glyph a) (glyph b)
last_two [] a b = refl
last_two (c ∷ x) a b = front_keeps c (x ++ (a ∷ b ∷ [])) (omega (arith, length-append x (a ∷ b ∷ []))) ∙ last_two x a b

pub short_unit : (w : List Char) {line : List ℕ} → line ≡ utf8 w → length line < 6 → 1 ≡ last_unit w
short_unit [] e h = refl
short_unit (a ∷ []) e h = refl
short_unit (a ∷ b ∷ w) e h = absurd (omega (arith, ap length e ∙ utf8_length (a ∷ b ∷ w)))

pub two_unit : (w : List Char) {line : List ℕ} {f g : Glyph} → line ≡ utf8 w → 6 ≤ length line → f ≡ glyph_at (drop (length line - 6) line) → g ≡ glyph_at (drop (length line - 3) line)
    → unit_of_two f g ≡ last_unit w
two_unit w {line} {f} {g} e h p q =
    let len : length line ≡ 3 * length w = ap length e ∙ utf8_length w in
    let (y, b, i) = last_char w (omega arith) in
    let (x, a, j) = last_char y (omega (arith, ap length i ∙ length-append y (b ∷ []))) in
    let whole : w ≡ x ++ (a ∷ b ∷ []) = i ∙ ap (λ (z : List Char). z ++ (b ∷ [])) j ∙ append_snoc x a (b ∷ []) in
    let n : length w ≡ length x + 2 = ap length whole ∙ length-append x (a ∷ b ∷ []) in
    let m : length y ≡ length x + 1 = ap length j ∙ length-append x (a ∷ []) in
    let six : length line - 6 ≡ 3 * length x = omega arith in
    let three : length line - 3 ≡ 3 * length y = omega arith in
    let first : f ≡ glyph a = glyph_behind x a (b ∷ []) (e ∙ ap utf8 whole) six p in
    let last : g ≡ glyph b = glyph_behind y b [] (e ∙ ap utf8 i) three q in
    rw (first, last) (sym (last_two x a b)) ∙ ap last_unit (sym whole)

-- ---- a count that holds of one row holds of every row that the line is
same_row : (w v : List Char) → utf8 w ≡ utf8 v → w ≡ v
same_row w v e = some-injective w v (sym (text_of w) ∙ ap plain_text e ∙ text_of v)

pub count_of : (v : List Char) {line : List ℕ} {n : ℕ} → line ≡ utf8 v → n ≡ length (nines v) → (w : List Char) → line ≡ utf8 w → n ≡ length (nines w)
count_of v e h w q = h ∙ ap (λ (x : List Char). length (nines x)) (same_row v w (sym e ∙ q))
