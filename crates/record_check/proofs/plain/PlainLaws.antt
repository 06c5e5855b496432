-- Laws of `specs/Plain.antt`. No contract cites this file.
-- In order: the fields that a map of 43 says there are; the digit rule; a legal record of such fields; strings; what the functions answer.
use mathlib.Core.Path.{◌≡◌, refl, sym, ap, ◌∙◌, subst}
use mathlib.Core.Bool.{Bool, true, false, cond}
use mathlib.Core.List.{List, [], ◌∷◌}
use mathlib.Core.Option.{none, some}
use Prim.Native.Nat.{ℕ, ◌+◌, ◌-◌, ◌*◌, ◌/◌, ◌%◌, ◌≤◌, ◌<◌}
use native.Mathlib.Omega.{arith}
use native.Mathlib.Decide.{dec_le}
use lib.ListN.{length, get_or}
use lib.Seq.{drop-cons}
use borrow.Author.Tests.{eq-eqb, le-leb, lt-ltb, le-ltb}
use Rattle.fields.specs.Fields.{le_at}
use Rattle.fields.specs.Part.{part}
use Rattle.fields.proofs.FieldsLaws.{le_at-add, le_at-one}
use Rattle.fields.proofs.PartLaws.{length_part, part_at}
use Rattle.text.specs.Text.{well_formed}
use Rattle.text.proofs.BytesLaws.{same_refl, same_true}
use Rattle.whole.specs.Whole.{TOP}
use Rattle.table.specs.Table.{Text}
use Rattle.table.specs.Layout as Layout
use Rattle.table.specs.Layout.{Is, map_field, bit, text, optional, read_numbers, record_with, read_fields, read_record}
use Rattle.table.specs.Check.{digit, all_of, is_digit_type, legal_digit, digit_rule, legal_texts, legal_numbers, legal_record}
use Rattle.table.proofs.LayoutLaws.{number_is, text_is, optional_there, fields_are, record_is}
use Rattle.record_check.specs.PlainContent.{Head, Digit, Numbers}
use Rattle.record_check.specs.Plain.{LegalAt, Tail, TailIs, FieldsIs}
use Rattle.record_check.specs.Ascii.{Ascii}
use Rattle.record_check.proofs.ascii.MaskLaws.{ascii_part, ascii_formed}
use Rattle.std.specs.Prelude.{Option, Some, None}

-- ---- the map
odd : (n : ℕ) → (2 * n + 1) % 2 ≡ 1
odd n = omega arith

even : (n : ℕ) → 2 * n % 2 ≡ 0
even n = omega arith

abbrev numbers_with : ℕ → ℕ → Layout.Numbers
numbers_with v b = record { value = some v; fraction = none; base = some b; mult = none }

module _ (m : ℕ) (e : m % 64 ≡ 43) where
  rom_there : bit m 0 ≡ true
  rom_there = let b : m / 1 % 2 ≡ 1 = omega arith in eq-eqb _ _ b

  script_there : bit m 5 ≡ true
  script_there = let d : m / 32 ≡ 2 * (m / 64) + 1 = omega arith in eq-eqb _ _ (ap (λ (n : ℕ). n % 2) d ∙ odd (m / 64))

  numbers_there : (s : List ℕ) (at : ℕ) → at + 16 ≤ length s → read_numbers m s at ≡ Is (numbers_with (le_at s at 8) (le_at s (at + 8) 8)) (at + 16)
  unfolding read_numbers optional
  numbers_there s at h =
      let b1 : m / 2 % 2 ≡ 1 = omega arith in
      let b2 : m / 4 % 2 ≡ 0 = omega arith in
      let d : m / 8 ≡ 2 * (4 * (m / 64) + 2) + 1 = omega arith in
      let b3 : m / 8 % 2 ≡ 1 = ap (λ (n : ℕ). n % 2) d ∙ odd (4 * (m / 64) + 2) in
      let f : m / 16 ≡ 2 * (2 * (m / 64) + 1) = omega arith in
      let b4 : m / 16 % 2 ≡ 0 = ap (λ (n : ℕ). n % 2) f ∙ even (2 * (m / 64) + 1) in
      let k : at + 8 + 8 ≡ at + 16 = omega arith in
      rw (b1, b2, b3, b4, number_is s at 8 (omega arith), number_is s (at + 8) 8 (omega arith), k)

-- ---- the digit rule: it asks for the one digit at most, and of the type "digit" alone
digit_holds : (t : Bool) (v : ℕ) (rom : Text) → (t ≡ true → v ≤ 9 → rom ≡ (48 + v) ∷ []) → cond t (legal_digit (some v) (some rom)) true ≡ true
unfolding legal_digit
digit_holds false v rom f = refl
digit_holds true v rom f = go (dec_le v 9)
  where
    go : Dec (v ≤ 9) → legal_digit (some v) (some rom) ≡ true
    go (yes h) = rw (le-ltb 9 v h, f refl h, same_refl ((48 + v) ∷ []))
    go (no h) = rw (lt-ltb 9 v (omega arith))

part_one : (s : List ℕ) (at : ℕ) → at < length s → part s at 1 ≡ get_or s at 0 ∷ []
unfolding part
part_one s at h = rw (drop-cons s at 0 h)

-- a type that is "digit" has its first byte
digit_first : (s : List ℕ) (at n : ℕ) → at + n ≤ length s → is_digit_type (part s at n) ≡ true → get_or s at 0 ≡ 100
digit_first s at n h e =
    let d : part s at n ≡ digit = same_true (part s at n) digit e in
    let five : n ≡ 5 = sym (length_part s at n h) ∙ ap length d in
    let z : at + 0 ≡ at = omega arith in
    rw (← z) (sym (part_at s at n 0 (omega arith)) ∙ ap (λ (t : Text). get_or t 0 0) d)

-- the first two bytes of a rom say that it is one digit
one_digit : (s : List ℕ) (t rom v : ℕ) → rom + 2 ≤ length s → ((i : ℕ) → get_or s i 0 < 256) → Digit t (le_at s rom 2) v → t ≡ 100 → v ≤ 9 → part s (rom + 1) (get_or s rom 0) ≡ (48 + v) ∷ []
one_digit s t rom v h f d c k =
    let e : le_at s rom 2 ≡ get_or s rom 0 + 256 * get_or s (rom + 1) 0
    = le_at-add s rom 1 1 (omega arith) ∙ rw (le_at-one s rom (omega arith), le_at-one s (rom + 1) (omega arith)) in
    let a : get_or s rom 0 ≡ 1 = omega (arith, f rom, f (rom + 1), d c k) in
    let b : get_or s (rom + 1) 0 ≡ 48 + v = omega (arith, f rom, f (rom + 1), d c k) in
    ap (part s (rom + 1)) a ∙ part_one s (rom + 1) (omega arith) ∙ ap (λ (x : ℕ). x ∷ []) b

-- ---- a string, well-formed
record Formed (s : List ℕ) (at : ℕ) (t : Text) (next : ℕ) : Type 0 where
  is : text s at ≡ Is t next
  formed : well_formed t ≡ true

formed_is : (s : List ℕ) (at next : ℕ) → get_or s at 0 ≤ 60 → next ≡ at + 1 + get_or s at 0 → next ≤ length s → Ascii s (at + 1) next → Formed s at (part s (at + 1) (get_or s at 0)) next
formed_is s at next k e l a = record {
  is = text_is s at (omega arith) k (omega arith) ∙ ap (Is (part s (at + 1) (get_or s at 0))) (sym e);
  formed = ascii_formed s (at + 1) (get_or s at 0) (omega arith) (subst (Ascii s (at + 1)) e a);
}

-- ---- a record of such fields
legal_plain : (least c m v b : ℕ) (type rom script : Text) → Head least c m → well_formed type ≡ true → well_formed rom ≡ true → well_formed script ≡ true
    → v ≤ TOP → 0 < b → b ≤ TOP → (is_digit_type type ≡ true → v ≤ 9 → rom ≡ (48 + v) ∷ []) → legal_record least (record_with c m type (some rom) (numbers_with v b) (some script)) ≡ true
unfolding legal_record legal_texts legal_numbers digit_rule all_of
legal_plain least c m v b type rom script h ft fr fs sv pb sb d =
    rw (
      h.code,
      ft,
      fr,
      fs,
      le-leb v TOP sv,
      lt-ltb 0 b pb,
      le-leb b TOP sb,
      digit_holds (is_digit_type type) v rom d,
    )

fields_plain : (least c m : ℕ) (s : List ℕ) (at : ℕ) {type rom script : Text} {first a b next : ℕ} → Head least c m → Formed s at type a → Formed s a rom b → Formed s (b + 16) script next
    → b + 16 ≤ length s → Numbers first (le_at s a 2) (le_at s b 8) (le_at s (b + 8) 8) → (is_digit_type type ≡ true → le_at s b 8 ≤ 9 → rom ≡ (48 + le_at s b 8) ∷ [])
    → LegalAt least c (read_fields c m s at) next
fields_plain least c m s at {type} {rom} {script} {a} {b} h t r u l n d = record {
  it = record_with c m type (some rom) (numbers_with (le_at s b 8) (le_at s (b + 8) 8)) (some script);
  is = sym (fields_are c m s at t.is (optional_there text s a (rom_there m h.fields) ∙ ap (map_field some) r.is) (numbers_there m h.fields s b l) (optional_there text s (b + 16) (script_there m h.fields) ∙ ap (map_field some) u.is));
  legal = legal_plain least c m (le_at s b 8) (le_at s (b + 8) 8) type rom script h t.formed r.formed u.formed n.small n.positive n.base_small d;
  point = refl;
}

-- ---- what the functions answer
pub tail_is : (s : List ℕ) (t rom at : ℕ) → 17 ≤ length s - at → get_or s (at + 16) 0 ≤ 24 → get_or s (at + 16) 0 ≤ length s - at - 17
    → Ascii s (at + 17) (at + 17 + get_or s (at + 16) 0) → Numbers t (le_at s rom 2) (le_at s at 8) (le_at s (at + 8) 8) → Tail s t rom at (at + 17 + get_or s (at + 16) 0)
tail_is s t rom at h k l a n = record { numbers = n; room = omega arith; short = k; behind = refl; ends = omega arith; script = a }

pub fields_is : (s : List ℕ) (at n q : ℕ) (r : Option ℕ) → n ≡ get_or s at 0 → q ≡ get_or s (at + 1 + n) 0 → n + 2 + q ≤ 24 → ((i : ℕ) → get_or s i 0 < 256) → at + (n + 2 + q) ≤ length s
    → Ascii s at (at + (n + 2 + q)) → TailIs s (get_or s (at + 1) 0) (at + 1 + n) (at + (n + 2 + q)) r → FieldsIs s at r
fields_is s at n q None en eq l f w a t = tt
fields_is s at n q (Some next) en eq l f w a t =
    let end = at + (n + 2 + q) in
    λ least c m h. fields_plain least c m s at h
    (formed_is s at (at + 1 + n) (omega arith) (omega arith) (omega arith) (ascii_part s at end (at + 1) (at + 1 + n) (omega arith) (omega arith) a))
    (formed_is s (at + 1 + n) end (omega arith) (omega arith) w (ascii_part s at end (at + 1 + n + 1) end (omega arith) (omega arith) a))
    (formed_is s (end + 16) next (omega (arith, t.short)) (omega (arith, t.behind)) t.ends (let g : end + 17 ≡ end + 16 + 1 = omega arith in subst (λ (x : ℕ). Ascii s x next) g t.script))
    (omega (arith, t.room)) t.numbers (λ e. one_digit s (get_or s (at + 1) 0) (at + 1 + n) (le_at s end 8) (omega (arith, t.room)) f t.numbers.digit (digit_first s (at + 1) (get_or s at 0) (omega arith) e))

pub record_is_plain : (s : List ℕ) (at least : ℕ) {code next : ℕ} → at + 5 ≤ length s → Head least (le_at s at 4) (get_or s (at + 4) 0) → FieldsIs s (at + 5) (Some next) → code ≡ le_at s at 4
    → LegalAt least code (read_record s at) next
record_is_plain s at least {code} {next} l h f e =
    let k = f least (le_at s at 4) (get_or s (at + 4) 0) h in
    record { it = k.it; is = sym (record_is s at l refl h.map (sym k.is)); legal = k.legal; point = k.point ∙ sym e }
