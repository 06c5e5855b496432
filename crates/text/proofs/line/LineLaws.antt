-- Laws of a whole line (`specs/Line.antt`): a walk with the line's length as the most characters, the answers of `text::check::check_line` by its tests, and what an
-- answer says of the line.
use mathlib.Core.Path.{◌≡◌, refl, sym, ap, ◌∙◌}
use mathlib.Core.Bool.{Bool, true, false, cond}
use mathlib.Core.List.{List, [], ◌∷◌}
use Prim.Native.Nat.{ℕ, ◌+◌, ◌≤◌, ◌<◌}
use native.Mathlib.Omega.{arith}
use lib.ListN.{length, take, length-append}
use lib.Seq.{take_all}
use lib.Dec.{eqb, leb}
use borrow.Author.Tests.{eq-eqb, ne_eqb, le-leb, lt-leb, leb-true}
use Rattle.text.specs.declared.Walked.{Walked}
use Rattle.text.specs.Text.{chars, left, is_nil, well_formed, encodes, offset_of, ill_at}
use Rattle.text.specs.Line.{walked, max_chars, line_check, line_refusal, line_at, LineAnswer}
use Rattle.text.proofs.RowLaws.{cond_cases}
use Rattle.text.proofs.EncodeLaws.{encode_pos}
use Rattle.text.proofs.TextLaws.{text_split}
use Rattle.std.specs.Prelude.{Result, Ok, Err}
use Rattle.text.specs.declared.LineRefusal.{LineRefusal}

length_encodes : (cs : List ℕ) → length cs ≤ length (encodes cs)
unfolding encodes
length_encodes [] = omega arith
length_encodes (c ∷ cs) = rw length-append (omega (arith, encode_pos c, length_encodes cs))

-- an answer by its tests says 01's number, and its offset or count
answers_told : (ok few : Bool) (n o i : ℕ) → let r = cond ok (cond few (Ok n) (Err (LineRefusal.TooLong (record { 0 = o })))) (Err (LineRefusal.IllFormed (record { 0 = i }))) in
    (line_refusal r ≡ cond ok (cond few 0 3) 2) × (line_at r ≡ cond ok (cond few n o) i)
answers_told true true n o i = (refl, refl)
answers_told true false n o i = (refl, refl)
answers_told false few n o i = (refl, refl)

module _ (s : List ℕ) where
  length_split : length s ≡ length (encodes (chars s)) + length (left s)
  length_split = ap length (text_split s) ∙ length-append (encodes (chars s)) (left s)

  take_chars : take (length s) (chars s) ≡ chars s
  take_chars = take_all (length s) (chars s) (omega (arith, length_encodes (chars s), length_split))

  pub count_whole : (walked s (length s)).count ≡ length (chars s)
  count_whole = ap length take_chars

  pub at_whole : (walked s (length s)).at.0 ≡ ill_at s
  at_whole = rw take_chars (omega (arith, length_split))

  well_formed_ill_at : well_formed s ≡ eqb (ill_at s) (length s)
  well_formed_ill_at = by_left (left s) (omega (arith, length_split))
    where
      by_left : (t : List ℕ) → ill_at s + length t ≡ length s → is_nil t ≡ eqb (ill_at s) (length s)
      by_left [] e = sym (eq-eqb (ill_at s) (length s) (omega arith))
      by_left (b ∷ t) e = sym (ne_eqb (ill_at s) (length s) (λ h. omega arith))

  pub well_formed_whole : eqb (walked s (length s)).at.0 (length s) ≡ well_formed s
  well_formed_whole = rw at_whole (sym well_formed_ill_at)

  -- the answers of `check_line`, by its tests
  module _ (w : Walked) (e : w ≡ walked s (length s)) where
    stopped : w.at.0 ≡ ill_at s
    stopped = ap (λ (v : Walked). v.at.0) e ∙ at_whole

    counted : w.count ≡ length (chars s)
    counted = ap (λ (v : Walked). v.count) e ∙ count_whole

    pub check_ill : w.at.0 < length s → Err (LineRefusal.IllFormed w.at) ≡ line_check s
    check_ill h = rw (stopped, well_formed_ill_at, ne_eqb (ill_at s) (length s) (λ p. omega (arith, stopped)))

    module _ (h : length s ≤ w.at.0) where
      whole : well_formed s ≡ true
      whole = well_formed_ill_at ∙ eq-eqb (ill_at s) (length s) (omega (arith, stopped))

      pub check_ok : w.count ≤ max_chars → Ok w.count ≡ line_check s
      check_ok k = rw (counted, whole, le-leb (length (chars s)) max_chars (omega (arith, counted)))

      pub check_long : max_chars < w.count → (v : ℕ) → v ≡ offset_of s max_chars → Err (LineRefusal.TooLong (record { 0 = v })) ≡ line_check s
      check_long k v p = rw (p, whole, lt-leb (length (chars s)) max_chars (omega (arith, counted)))

  -- ---- what an answer says of the line: 01's number, and its offset or count
  pub line_answer : {r : Result ℕ LineRefusal} → r ≡ line_check s → LineAnswer s r
  line_answer e =
      let told = answers_told (well_formed s) (leb (length (chars s)) max_chars) (length (chars s)) (offset_of s max_chars) (ill_at s) in
      record { is = e; number = ap line_refusal e ∙ told.0; place = ap line_at e ∙ told.1 }

  -- a line that is not refused has its characters, at most 256
  pub checked_line : (n : ℕ) → line_check s ≡ Ok n → (n ≡ length (chars s)) × (n ≤ 256) × (well_formed s ≡ true)
  checked_line n =
      cond_cases P (well_formed s)
      (λ t. cond_cases P (leb (length (chars s)) max_chars) (λ h e. let m : n ≡ length (chars s) = cc in (m, omega (arith, leb-true (length (chars s)) max_chars h), t)) (λ h e. let z : ◌≡◌ {A = ℕ} 0 1 = cc in absurd (omega arith)))
      (λ t e. let z : ◌≡◌ {A = ℕ} 0 1 = cc in absurd (omega arith))
    where
      P : Result ℕ LineRefusal → Type 0
      P r = r ≡ Ok n → (n ≡ length (chars s)) × (n ≤ 256) × (well_formed s ≡ true)
