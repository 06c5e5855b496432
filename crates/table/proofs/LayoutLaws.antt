-- Laws of `specs/Layout.antt`, by the way that a field's tests go. No contract cites this file.
-- In order: a field and what is behind it; numbers; strings; fields that may be absent; the numbers of a record, and room for them; a record; where fields end; what answers tell; items one after the other.
use mathlib.Core.Path.{◌≡◌, refl, sym, ap, ◌∙◌, subst}
use mathlib.Core.Bool.{Bool, true, false, cond}
use mathlib.Core.List.{List, [], ◌∷◌}
use mathlib.Core.Option.{Option, none, some}
use Prim.Native.Nat.{ℕ, zero, suc, ◌+◌, ◌-◌, ◌*◌, ◌/◌, ◌%◌, ◌≤◌, ◌<◌}
use native.Mathlib.Nat.{add-zero}
use native.Mathlib.Omega.{arith}
use native.Mathlib.Decide.{dec_le}
use lib.ListN.{length, get_or}
use lib.Dec.{leb, ltb, eqb}
use mir.Syntax.{w64}
use mir.Val.{Fits}
use borrow.Author.Tests.{le-leb, lt-leb, lt-ltb, le-ltb, leb-true, eqb-true}
use Rattle.fields.specs.Fields.{le_at}
use Rattle.fields.proofs.FieldsLaws.{le_at-one}
use Rattle.fields.specs.Part.{part}
use Rattle.table.specs.Table.{Text, Record}
use Rattle.table.specs.Layout.{Field, Is, Fault, then_field, map_field, bit, number, text_of, text, fraction, optional, Numbers, read_numbers, record_with, read_fields, read_record, many_at, texts_at, list_at}
use Rattle.table.specs.Answers.{Within, TextWithin, optionally, text_field, opt_text, number_if, numbers_of}
use Rattle.fields.specs.declared.Part.{Part}
use Rattle.std.specs.Prelude.{Some, None}
use Rattle.std.specs.Prelude as std

-- ---- a field that was read, and what is behind it
pub no_fault : {A P : Type 0} {f : Field A} {a : A} {next : ℕ} → f ≡ Fault → f ≡ Is a next → P
no_fault e d = let z : ◌≡◌ {A = ℕ} 0 1 = cc in absurd (omega arith)

pub record ThenIs {A B : Type 0} (f : Field A) (k : A → ℕ → Field B) (b : B) (end : ℕ) : Type 0 where
  pub value : A
  pub next : ℕ
  pub first : f ≡ Is value next
  pub rest : k value next ≡ Is b end

pub then_is : {A B : Type 0} (f : Field A) (k : A → ℕ → Field B) {b : B} {end : ℕ} → then_field f k ≡ Is b end → ThenIs f k b end
then_is (Is a next) k e = record { value = a; next = next; first = refl; rest = e }
then_is Fault k e = no_fault refl e

-- what holds of what was read, and of the offset behind it
abbrev pub OnField : {A : Type 0} → (A → ℕ → Type 0) → Field A → Type 0
OnField P (Is a next) = P a next
OnField P Fault = Unit {0}

pub on_then : {A B : Type 0} (P : A → ℕ → Type 0) (Q : B → ℕ → Type 0) (f : Field A) (k : A → ℕ → Field B) → OnField P f
    → ((a : A) (next : ℕ) → P a next → OnField Q (k a next)) → OnField Q (then_field f k)
on_then P Q (Is a next) k p g = g a next p
on_then P Q Fault k p g = tt

-- ---- numbers and strings
module _ (s : List ℕ) (at : ℕ) where
  pub number_cut : (w : ℕ) → length s < at + w → number w s at ≡ Fault
  unfolding number
  number_cut w h = simp (lt-leb (at + w) (length s) h)

  pub number_is : (w : ℕ) → at + w ≤ length s → number w s at ≡ Is (le_at s at w) (at + w)
  unfolding number
  number_is w h = simp (le-leb (at + w) (length s) h)

  pub byte_is : at < length s → number 1 s at ≡ Is (get_or s at 0) (at + 1)
  byte_is h = number_is 1 (omega arith) ∙ rw (le_at-one s at h)

  pub text_missing : length s ≤ at → text s at ≡ Fault
  unfolding text
  text_missing h = rw (number_cut 1 (omega arith))

  module _ (h : at < length s) where
    pub text_long : 60 < get_or s at 0 → text s at ≡ Fault
    unfolding text text_of
    text_long k = rw (byte_is h) (simp (lt-leb (get_or s at 0) 60 k))

    pub text_cut : get_or s at 0 ≤ 60 → length s < at + 1 + get_or s at 0 → text s at ≡ Fault
    unfolding text text_of
    text_cut k l = rw (byte_is h) (simp (le-leb (get_or s at 0) 60 k, lt-leb (at + 1 + get_or s at 0) (length s) l))

    pub text_is : get_or s at 0 ≤ 60 → at + 1 + get_or s at 0 ≤ length s → text s at ≡ Is (part s (at + 1) (get_or s at 0)) (at + 1 + get_or s at 0)
    unfolding text text_of
    text_is k l = rw (byte_is h) (simp (le-leb (get_or s at 0) 60 k, le-leb (at + 1 + get_or s at 0) (length s) l))

-- ---- a field that is absent, or there
pub optional_absent : {A : Type 0} (p : List ℕ → ℕ → Field A) (s : List ℕ) (at : ℕ) {b : Bool} → b ≡ false → optional b p s at ≡ Is none at
unfolding optional
optional_absent p s at e = rw e

pub optional_there : {A : Type 0} (p : List ℕ → ℕ → Field A) (s : List ℕ) (at : ℕ) {b : Bool} → b ≡ true → optional b p s at ≡ map_field some (p s at)
unfolding optional
optional_there p s at e = rw e

pub opt_text_there : (s : List ℕ) (at : ℕ) (r : std.Option (Part × ℕ)) {b : Bool} → b ≡ true → text_field s r ≡ text s at → opt_text b s r ≡ optional b text s at
opt_text_there s at r {b} e f = there r ∙ ap (map_field some) f ∙ sym (optional_there text s at e)
  where
    there : (r : std.Option (Part × ℕ)) → opt_text b s r ≡ map_field some (text_field s r)
    there (Some (p, next)) = rw e
    there None = refl

pub opt_absent : {A : Type 0} (p : List ℕ → ℕ → Field A) (s : List ℕ) (at : ℕ) (a : A) {b : Bool} → b ≡ false → Is (optionally b a) at ≡ optional b p s at
unfolding optional
opt_absent p s at a e = rw e

-- ---- numbers that may be absent: x is the map's bit, 0 or 1, and they have 8 * x bytes
module _ (s : List ℕ) (at : ℕ) where
  pub opt_is : (x : ℕ) → x < 2 → at + 8 * x ≤ length s → optional (eqb x 1) (number 8) s at ≡ Is (optionally (eqb x 1) (number_if (eqb x 1) s at)) (at + 8 * x)
  unfolding optional
  opt_is zero h k = rw add-zero
  opt_is (suc zero) h k = rw (number_is s at 8 k)
  opt_is (suc (suc x)) h k = absurd (omega arith)

  pub opt_cut : (x : ℕ) → x < 2 → at ≤ length s → length s < at + 8 * x → optional (eqb x 1) (number 8) s at ≡ Fault
  unfolding optional
  opt_cut zero h l k = absurd (omega arith)
  opt_cut (suc zero) h l k = rw (number_cut s at 8 k)
  opt_cut (suc (suc x)) h l k = absurd (omega arith)

  pub ratio_is : (x : ℕ) → x < 2 → at + 8 * x + 8 * x ≤ length s
      → optional (eqb x 1) fraction s at ≡ Is (optionally (eqb x 1) (number_if (eqb x 1) s at, number_if (eqb x 1) s (at + 8 * x))) (at + 8 * x + 8 * x)
  unfolding optional fraction
  ratio_is zero h k = rw (add-zero, add-zero)
  ratio_is (suc zero) h k = rw (number_is s at 8 (omega arith), number_is s (at + 8) 8 k)
  ratio_is (suc (suc x)) h k = absurd (omega arith)

  pub ratio_cut : (x : ℕ) → x < 2 → at ≤ length s → length s < at + 8 * x + 8 * x → optional (eqb x 1) fraction s at ≡ Fault
  unfolding optional fraction
  ratio_cut zero h l k = absurd (omega arith)
  ratio_cut (suc zero) h l k = go (dec_le (at + 8) (length s))
    where
      go : Dec (at + 8 ≤ length s) → map_field some (fraction s at) ≡ Fault
      go (yes f) = rw (number_is s at 8 f, number_cut s (at + 8) 8 k)
      go (no f) = rw (number_cut s at 8 (omega arith))
  ratio_cut (suc (suc x)) h l k = absurd (omega arith)

-- ---- the numbers of a record: where each begins
abbrev ratio_at : ℕ → ℕ → ℕ
ratio_at m at = at + 8 * (m / 2 % 2)

abbrev base_at : ℕ → ℕ → ℕ
base_at m at = ratio_at m at + 8 * (m / 4 % 2) + 8 * (m / 4 % 2)

abbrev mult_at : ℕ → ℕ → ℕ
mult_at m at = base_at m at + 8 * (m / 8 % 2)

-- ---- room for the numbers that a map asks for, in n bytes
pub numbers_fit : (m at n : ℕ) → at ≤ n → m / 2 % 2 + 2 * (m / 4 % 2) + m / 8 % 2 + m / 16 % 2 ≤ (n - at) / 8 → mult_at m at + 8 * (m / 16 % 2) ≤ n
numbers_fit m at n h k = omega arith

module _ (m at n : ℕ) (h : mult_at m at + 8 * (m / 16 % 2) ≤ n) where
  pub value_room : bit m 1 ≡ true → at + 8 ≤ n
  value_room e = omega (arith, eqb-true)

  pub numerator_room : bit m 2 ≡ true → ratio_at m at + 8 ≤ n
  numerator_room e = omega (arith, eqb-true)

  pub denominator_room : bit m 2 ≡ true → ratio_at m at + 8 * (m / 4 % 2) + 8 ≤ n
  denominator_room e = omega (arith, eqb-true)

  pub base_room : bit m 3 ≡ true → base_at m at + 8 ≤ n
  base_room e = omega (arith, eqb-true)

  pub mult_room : bit m 4 ≡ true → mult_at m at + 8 ≤ n
  mult_room e = omega (arith, eqb-true)

  module _ (k : n < 18446744073709551616) where
    pub ratio_fits : Fits w64 (ratio_at m at)
    ratio_fits = record { fits = omega arith }

module _ (m : ℕ) (s : List ℕ) (at : ℕ) where
  pub numbers_are : (v n d b u : ℕ) → mult_at m at + 8 * (m / 16 % 2) ≤ length s
      → v ≡ number_if (bit m 1) s at → n ≡ number_if (bit m 2) s (ratio_at m at) → d ≡ number_if (bit m 2) s (ratio_at m at + 8 * (m / 4 % 2))
      → b ≡ number_if (bit m 3) s (base_at m at) → u ≡ number_if (bit m 4) s (mult_at m at)
      → Is (numbers_of m (record { value = v; numerator = n; denominator = d; base = b; mult = u; next = mult_at m at + 8 * (m / 16 % 2) })) (mult_at m at + 8 * (m / 16 % 2)) ≡ read_numbers m s at
  unfolding read_numbers
  numbers_are v n d b u h ev en ed eb eu =
      rw (
        ev,
        en,
        ed,
        eb,
        eu,
        opt_is s at (m / 2 % 2) (omega arith) (omega arith),
        ratio_is s (ratio_at m at) (m / 4 % 2) (omega arith) (omega arith),
        opt_is s (base_at m at) (m / 8 % 2) (omega arith) (omega arith),
        opt_is s (mult_at m at) (m / 16 % 2) (omega arith) h,
      )

  -- the first of the fields that doesn't fit
  pub numbers_cut : at ≤ length s → length s < at + 8 * (m / 2 % 2 + 2 * (m / 4 % 2) + m / 8 % 2 + m / 16 % 2) → read_numbers m s at ≡ Fault
  unfolding read_numbers
  numbers_cut l k = value (dec_le (ratio_at m at) (length s))
    where
      base : ratio_at m at ≤ length s → base_at m at ≤ length s → Dec (mult_at m at ≤ length s) → read_numbers m s at ≡ Fault
      base f g (yes h) =
          rw (
            opt_is s at (m / 2 % 2) (omega arith) f,
            ratio_is s (ratio_at m at) (m / 4 % 2) (omega arith) g,
            opt_is s (base_at m at) (m / 8 % 2) (omega arith) h,
            opt_cut s (mult_at m at) (m / 16 % 2) (omega arith) h (omega arith),
          )
      base f g (no h) =
          rw (opt_is s at (m / 2 % 2) (omega arith) f, ratio_is s (ratio_at m at) (m / 4 % 2) (omega arith) g, opt_cut s (base_at m at) (m / 8 % 2) (omega arith) g (omega arith))

      ratio : ratio_at m at ≤ length s → Dec (base_at m at ≤ length s) → read_numbers m s at ≡ Fault
      ratio f (yes g) = base f g (dec_le (mult_at m at) (length s))
      ratio f (no g) = rw (opt_is s at (m / 2 % 2) (omega arith) f, ratio_cut s (ratio_at m at) (m / 4 % 2) (omega arith) f (omega arith))

      value : Dec (ratio_at m at ≤ length s) → read_numbers m s at ≡ Fault
      value (yes f) = ratio f (dec_le (base_at m at) (length s))
      value (no f) = rw (opt_cut s at (m / 2 % 2) (omega arith) l (omega arith))

-- ---- a record
module _ (c m : ℕ) (s : List ℕ) (at : ℕ) where
  pub type_fault : text s at ≡ Fault → Fault ≡ read_fields c m s at
  unfolding read_fields
  type_fault e = rw e

  module _ {type : Text} {a : ℕ} (e : text s at ≡ Is type a) where
    pub rom_fault : optional (bit m 0) text s a ≡ Fault → Fault ≡ read_fields c m s at
    unfolding read_fields
    rom_fault f = rw (e, f)

    module _ {rom : Option Text} {b : ℕ} (f : optional (bit m 0) text s a ≡ Is rom b) where
      pub numbers_fault : read_numbers m s b ≡ Fault → Fault ≡ read_fields c m s at
      unfolding read_fields
      numbers_fault g = rw (e, f, g)

      module _ {n : Numbers} {d : ℕ} (g : read_numbers m s b ≡ Is n d) where
        pub script_fault : optional (bit m 5) text s d ≡ Fault → Fault ≡ read_fields c m s at
        unfolding read_fields
        script_fault h = rw (e, f, g, h)

        pub fields_are : {script : Option Text} {next : ℕ} → optional (bit m 5) text s d ≡ Is script next → Is (record_with c m type rom n script) next ≡ read_fields c m s at
        unfolding read_fields
        fields_are h = rw (e, f, g, h)

module _ (s : List ℕ) (at : ℕ) where
  pub record_cut : length s < at + 5 → read_record s at ≡ Fault
  unfolding read_record
  record_cut h = go (dec_le (at + 4) (length s))
    where
      go : Dec (at + 4 ≤ length s) → read_record s at ≡ Fault
      go (yes k) = rw (number_is s at 4 k, number_cut s (at + 4) 1 (omega arith))
      go (no k) = rw (number_cut s at 4 (omega arith))

  module _ (h : at + 5 ≤ length s) where
    head : read_record s at ≡ cond (ltb (get_or s (at + 4) 0) 128) (read_fields (le_at s at 4) (get_or s (at + 4) 0) s (at + 5)) Fault
    unfolding read_record
    head = let e : at + 4 + 1 ≡ at + 5 = omega arith in rw (number_is s at 4 (omega arith), byte_is s (at + 4) (omega arith), e)

    pub record_is : {code : ℕ} {x : Field Record} → code ≡ le_at s at 4 → get_or s (at + 4) 0 < 128 → x ≡ read_fields code (get_or s (at + 4) 0) s (at + 5) → x ≡ read_record s at
    record_is e k f = f ∙ rw e (sym (head ∙ simp (lt-ltb (get_or s (at + 4) 0) 128 k)))

    pub record_bit_7 : 128 ≤ get_or s (at + 4) 0 → read_record s at ≡ Fault
    record_bit_7 k = head ∙ simp (le-ltb (get_or s (at + 4) 0) 128 k)

-- ---- a field ends within the bytes
abbrev pub Ends : {A : Type 0} → List ℕ → Field A → Type 0
Ends s (Is a next) = next ≤ length s
Ends s Fault = Unit {0}

module _ (s : List ℕ) (at : ℕ) where
  text_of-ends : (n : ℕ) → Ends s (text_of s at n)
  unfolding text_of
  text_of-ends n = go (leb n 60) (leb (at + n) (length s)) refl
    where
      go : (b d : Bool) → leb (at + n) (length s) ≡ d → Ends s (cond b (cond d (Is (part s at n) (at + n)) Fault) Fault)
      go true true e = leb-true _ _ e
      go true false e = tt
      go false d e = tt

pub text_ends : (s : List ℕ) (at : ℕ) → Ends s (text s at)
unfolding text
text_ends s at = go (number 1 s at)
  where
    go : (f : Field ℕ) → Ends s (then_field f (λ n next. text_of s next n))
    go (Is n next) = text_of-ends s next n
    go Fault = tt

pub opt_text_ends : (s : List ℕ) (at : ℕ) (b : Bool) → at ≤ length s → Ends s (optional b text s at)
unfolding optional
opt_text_ends s at true h = go (text s at) (text_ends s at)
  where
    go : (f : Field Text) → Ends s f → Ends s (map_field some f)
    go (Is t next) k = k
    go Fault k = tt
opt_text_ends s at false h = h

-- ---- what an answer told
pub told : {A B : Type 0} (f : A → B) {x : B} {r a : A} → f r ≡ x → r ≡ a → x ≡ f a
told f e t = sym e ∙ ap f t

pub ends_at : {A : Type 0} (s : List ℕ) {f : Field A} {a : A} {next : ℕ} → Ends s f → f ≡ Is a next → next ≤ length s
ends_at s h e = subst (Ends s) e h

pub within_told : (s : List ℕ) {r : std.Option (Part × ℕ)} {p : Part} {next : ℕ} → TextWithin s r → r ≡ Some (p, next) → Within s p
within_told s h e = subst (TextWithin s) e h

-- ---- items of one kind one after the other, strings or records: for callers that walk over them
module _ {A : Type 0} (p : List ℕ → ℕ → Field A) (s : List ℕ) (at : ℕ) where
  pub many_nil : (n : ℕ) → n ≡ 0 → [] ≡ many_at p n s at
  unfolding many_at
  many_nil n e = rw e

  pub many_fault : (n : ℕ) → p s at ≡ Fault → [] ≡ many_at p n s at
  unfolding many_at
  many_fault zero e = refl
  many_fault (suc n) e = rw e

  pub many_cons : (n : ℕ) {a : A} {next : ℕ} → (n ≡ 0 → ⊥) → p s at ≡ Is a next → a ∷ many_at p (n - 1) s next ≡ many_at p n s at
  unfolding many_at
  many_cons zero h e = absurd (h refl)
  many_cons (suc n) h e = let m : suc n - 1 ≡ n = omega arith in rw (m, e)

-- a list's strings stand behind its count
pub list_texts : (s : List ℕ) (at : ℕ) → at < length s → list_at s at ≡ texts_at (get_or s at 0) s (at + 1)
unfolding list_at
list_texts s at h = rw (byte_is s at h)
