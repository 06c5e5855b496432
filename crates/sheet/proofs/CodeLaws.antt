-- Laws for the proofs of the code (`sheet_counts`, specs/Numbered.antt; `specs/Walk.antt`).
-- In order: a word that is put; what a candidate gives; behind a candidate; candidates and blocks that are passed.
use Prim.Native.Nat.{ℕ, zero, suc, ◌+◌, ◌*◌, ◌-◌, ◌/◌, ◌%◌, ◌≤◌, ◌<◌}
use mathlib.Core.Path.{◌≡◌, refl, sym, ap, ◌∙◌}
use mathlib.Core.Bool.{true, false}
use mathlib.Core.List.{List, [], ◌∷◌, ◌++◌}
use mathlib.Core.Option.{Option, none, some}
use native.Mathlib.Omega.{arith}
use native.Mathlib.Numerals.{add-one}
use lib.ListN.{length, take, length-append, length-take}
use lib.Seq.{length-sets}
use Rattle.edge.specs.Write.{Put}
use Rattle.edge.proofs.WriteLaws.{put_then}
use Rattle.grammar.specs.Plain.{Char, utf8}
use Rattle.grammar.proofs.PlainText.{utf8_nil, utf8_append, utf8_length}
use Rattle.numeral.specs.Field.{field_of}
use Rattle.numeral.specs.Walk.{valued}
use Rattle.sheet_rows.specs.Rows.{char_at, numeral_within, number_of}
use Rattle.sheet_rows.proofs.RowLaws.{number_within}
use Rattle.sheet_rows.proofs.CodeLaws.{put_read}
use Rattle.sheet_counts.specs.Numbered.{word_of, candidate, rows_in}
use Rattle.sheet_counts.proofs.CountLaws.{short_rows}
use Rattle.sheet.specs.Walk.{tried_as, tried, AtFront, At, PassedIs}
use Rattle.sheet.proofs.NumberedLaws.{at_front, at_none, at_some, at_more, at_end}
use Rattle.std.specs.Prelude.{Some, None}
use Rattle.std.specs.Prelude as std
use Rattle.std.specs.Option.{is_some, option_map}
use Rattle.std.proofs.lemmas.Option.{some_pair_parts}

-- ---- a word that is put
put_nothing : (s : List ℕ) → Put s s 0 0 (utf8 [])
put_nothing s = rw utf8_nil (record { wrote = refl; next = refl })

pub word_none : (s : List ℕ) (m n : ℕ) → m ≡ 0 → Put s s 0 0 (utf8 (word_of m n))
unfolding word_of
word_none s m n e = rw e (put_nothing s)

pub word_empty : (s : List ℕ) (m n : ℕ) → n ≡ 0 → Put s s 0 0 (utf8 (word_of m n))
unfolding word_of
word_empty s zero n e = put_nothing s
word_empty s (suc m) n e = rw e (put_nothing s)

word_is : (m n : ℕ) → 1 ≤ m → 1 ≤ n → word_of m n ≡ word_of (m - 1) ((n - 1) / 16) ++ (char_at ((n - 1) % 16) ∷ [])
unfolding word_of
word_is m n h k = go m n refl refl
  where
    go : (a b : ℕ) → m ≡ a → n ≡ b → word_of a b ≡ word_of (m - 1) ((n - 1) / 16) ++ (char_at ((n - 1) % 16) ∷ [])
    go zero b e f = absurd (omega arith)
    go (suc a) zero e f = absurd (omega arith)
    go (suc a) (suc b) e f = let p : m - 1 ≡ a = omega arith in let q : n - 1 ≡ b = omega arith in rw (p, q)

pub word_put : {s t u : List ℕ} {a r : ℕ} (m n : ℕ) → 1 ≤ m → 1 ≤ n → Put s t 0 a (utf8 (word_of (m - 1) ((n - 1) / 16))) → Put t u a r (utf8 (char_at ((n - 1) % 16) ∷ []))
    → Put s u 0 r (utf8 (word_of m n))
word_put m n h k p q = rw (word_is m n h k, utf8_append (word_of (m - 1) ((n - 1) / 16)) (char_at ((n - 1) % 16) ∷ [])) (put_then p q)

word_short : (m n : ℕ) → length (word_of m n) ≤ m
unfolding word_of
word_short zero n = omega arith
word_short (suc m) zero = omega arith
word_short (suc m) (suc n) = omega (arith, length-append (word_of m (n / 16)) (char_at (n % 16) ∷ []), word_short m (n / 16))

pub word_size : (m n : ℕ) → length (utf8 (word_of m n)) ≤ 3 * m
word_size m n = omega (arith, utf8_length (word_of m n), word_short m n)

candidate_is : (i : ℕ) → candidate i ≡ word_of 4 (i + 1)
unfolding candidate
candidate_is i = ap (word_of 4) (omega arith)

pub candidate_short : (i : ℕ) → length (candidate i) ≤ 4
candidate_short i = rw (candidate_is i) (word_short 4 (i + 1))

-- ---- what a candidate gives
module _ (i : ℕ) {s t : List ℕ} {len : ℕ} (room : 12 ≤ length s) (put : Put s t 0 len (utf8 (word_of 4 (i + 1)))) where
  pub word_fits : len ≤ length t
  word_fits = omega (arith, put.next, word_size 4 (i + 1), ap length put.wrote, length-sets s 0 (utf8 (word_of 4 (i + 1))))

  pub word_taken : len ≡ length (take len t)
  word_taken = simp length-take (omega (arith, word_fits))

  pub tried_put : AtFront s t (utf8 (candidate i))
  tried_put = rw (candidate_is i) (record { wrote = put.wrote; next = omega arith })

  -- what stands in the buffer
  read : take len t ≡ utf8 (candidate i)
  read = put_read s (utf8 (word_of 4 (i + 1))) put (omega (arith, put.next, word_size 4 (i + 1))) ∙ ap utf8 (sym (candidate_is i))

  value : {f : std.Option ℕ} → f ≡ valued (number_of (field_of (take len t))) → f ≡ valued (numeral_within (candidate i))
  value e = e ∙ ap valued (ap (λ (l : List ℕ). number_of (field_of l)) read ∙ number_within (candidate i) (omega (arith, candidate_short i)))

  long : len ≡ length (utf8 (candidate i))
  long = rw (candidate_is i) (put.next ∙ omega arith)

  lengthened : (o : Option ℕ) → option_map (λ (v : ℕ). (len, v)) (valued o) ≡ tried_as (length (utf8 (candidate i))) o
  lengthened none = refl
  lengthened (some v) = ap (λ (n : ℕ). Some (n, v)) long

  pub tried_value : {f : std.Option ℕ} → f ≡ valued (number_of (field_of (take len t))) → option_map (λ (v : ℕ). (len, v)) f ≡ tried (candidate i)
  tried_value e = ap (option_map (λ (v : ℕ). (len, v))) (value e) ∙ lengthened (numeral_within (candidate i))

-- ---- behind a candidate
row_is_tried : (w : List Char) (o : Option ℕ) (n v : ℕ) → Some (n, v) ≡ tried_as (length (utf8 w)) o → (o ≡ some v) × (n ≡ length (utf8 w))
row_is_tried w none n v e = absurd cc
row_is_tried w (some u) n v e = let k = some_pair_parts n (length (utf8 w)) v u e in (ap some (sym k.1), k.0)

nothing_is_tried : (w : List Char) (o : Option ℕ) → None ≡ tried_as (length (utf8 w)) o → o ≡ none
nothing_is_tried w none e = refl
nothing_is_tried w (some u) e = absurd cc

pub row_tried : (i : ℕ) {f : std.Option (ℕ × ℕ)} (n v : ℕ) → f ≡ tried (candidate i) → f ≡ Some (n, v) → (numeral_within (candidate i) ≡ some v) × (n ≡ length (utf8 (candidate i)))
row_tried i n v e k = row_is_tried (candidate i) (numeral_within (candidate i)) n v (sym k ∙ e)

pub none_tried : (i : ℕ) {f : std.Option (ℕ × ℕ)} → f ≡ tried (candidate i) → f ≡ None → numeral_within (candidate i) ≡ none
none_tried i e k = nothing_is_tried (candidate i) (numeral_within (candidate i)) (sym k ∙ e)

-- whether it has a row
some_is_tried : (n : ℕ) (o : Option ℕ) → is_some (tried_as n o) ≡ true → (v : ℕ) × (o ≡ some v)
some_is_tried n none e = absurd cc
some_is_tried n (some v) e = (v, refl)

none_is_tried : (n : ℕ) (o : Option ℕ) → is_some (tried_as n o) ≡ false → o ≡ none
none_is_tried n none e = refl
none_is_tried n (some v) e = absurd cc

pub some_counted : (i : ℕ) {f : std.Option (ℕ × ℕ)} → f ≡ tried (candidate i) → is_some f ≡ true → (v : ℕ) × (numeral_within (candidate i) ≡ some v)
some_counted i e k = some_is_tried (length (utf8 (candidate i))) (numeral_within (candidate i)) (rw e at k)

pub none_counted : (i : ℕ) {f : std.Option (ℕ × ℕ)} → f ≡ tried (candidate i) → is_some f ≡ false → numeral_within (candidate i) ≡ none
none_counted i e k = none_is_tried (length (utf8 (candidate i))) (numeral_within (candidate i)) (rw e at k)

-- ---- candidates that are passed
module _ (position i p : ℕ) (a : PassedIs position i p) where
  pub passed_none : i < 69904 → numeral_within (candidate i) ≡ none → PassedIs position (i + 1) p
  passed_none h e = record { inside = omega arith; before = a.before; few = omega (arith, a.few); there = rw (add-one i) (at_none i p h e a.there) }

  pub passed_row : i < 69904 → (p ≡ position → ⊥) → (v : ℕ) → numeral_within (candidate i) ≡ some v → PassedIs position (i + 1) (p + 1)
  passed_row h n v e = record { inside = omega arith; before = omega (arith, a.before); few = omega (arith, a.few); there = rw (add-one i) (at_some i p v h e a.there) }

  pub passed_there : p ≡ position → (i ≤ 69904) × At i position
  passed_there e = (a.inside, rw e at a.there)

  pub passed_end : 69904 ≤ i → (69904 ≤ 69904) × At 69904 position
  passed_end h = let e : i ≡ 69904 = omega (arith, a.inside) in (omega arith, rw e at (at_end i p position h a.before a.there))

-- ---- blocks that are passed
pub at_three : At 272 257
at_three = rw short_rows at (at_more 272 0 0 (omega arith) at_front)

pub at_block : (block index rows n : ℕ) → block < 68 → index ≡ 272 + 1024 * block → n ≡ rows_in 1024 (272 + 1024 * block) → At index rows → At (index + 1024) (rows + n)
at_block block index rows n h e f a = rw (f, ← e) (at_more 1024 index rows (omega arith) a)
