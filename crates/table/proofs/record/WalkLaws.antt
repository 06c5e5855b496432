-- Laws of `specs/Walk.antt`: where the fields of a record stand that is laid out, and that they make the record. No contract cites this file.
-- In order: a field and what is behind it; a string; the numbers; the fields behind the map; a record; a record that is read by its lengths.
use mathlib.Core.Path.{◌≡◌, refl, sym, ap, ◌∙◌}
use mathlib.Core.Bool.{Bool, true, false, false≢true}
use mathlib.Core.List.{List}
use mathlib.Core.Option.{Option, some}
use Prim.Native.Nat.{ℕ, ◌+◌, ◌*◌, ◌/◌, ◌%◌, ◌≤◌, ◌<◌}
use native.Mathlib.Omega.{arith}
use native.Mathlib.Decide.{dec_le}
use lib.ListN.{length, get_or}
use Rattle.fields.specs.Fields.{le_at}
use Rattle.fields.specs.Part.{part, part_of}
use Rattle.table.specs.Table.{Text, Record}
use Rattle.table.specs.Layout.{Field, Is, Fault, Numbers, map_field, bit, text, optional, read_numbers, record_with, read_fields, read_record}
use Rattle.table.proofs.LayoutLaws.{no_fault, then_is, text_missing, text_long, text_cut, text_is, numbers_are, numbers_cut, record_cut, record_bit_7, record_is, text_ends, opt_text_ends, ends_at}
use Rattle.table.specs.Answers.{optionally, numbers_of, record_of, Within, Inside}
use Rattle.fields.specs.declared.Part.{Part}
use Rattle.table.specs.declared.layout.Numbers as AsRead
use Rattle.table.specs.declared.layout.NumProp.{NumProp}
use Rattle.table.specs.Walk.{end_if, part_if, Stands}

-- ---- a field that was read, and what is behind it
is_next : {A : Type 0} {f : Field A} {a b : A} {m n : ℕ} → f ≡ Is a m → f ≡ Is b n → m ≡ n
is_next e d = cc

-- ---- a string
record Known (s : List ℕ) (at : ℕ) : Type 0 where
  is : text s at ≡ Is (part s (at + 1) (get_or s at 0)) (at + 1 + get_or s at 0)
  within : at + 1 + get_or s at 0 ≤ length s

text_known : (s : List ℕ) (at : ℕ) {x : Text} {next : ℕ} → text s at ≡ Is x next → Known s at
text_known s at e = there (dec_le (length s) at)
  where
    whole : at < length s → get_or s at 0 ≤ 60 → Dec (at + 1 + get_or s at 0 ≤ length s) → Known s at
    whole h k (yes l) = record { is = text_is s at h k l; within = l }
    whole h k (no l) = no_fault (text_cut s at h k (omega arith)) e

    short : at < length s → Dec (get_or s at 0 ≤ 60) → Known s at
    short h (yes k) = whole h k (dec_le (at + 1 + get_or s at 0) (length s))
    short h (no k) = no_fault (text_long s at h (omega arith)) e

    there : Dec (length s ≤ at) → Known s at
    there (yes h) = no_fault (text_missing s at h) e
    there (no h) = let l : at < length s = omega arith in short l (dec_le (get_or s at 0) 60)

map_told : (f : Field Text) {x : Option Text} {next : ℕ} → map_field some f ≡ Is x next → (y : Text) × (f ≡ Is y next)
map_told (Is y n) {x} {next} e = let q : n ≡ next = cc in (y, rw q)
map_told Fault e = no_fault refl e

record KnownIf (b : Bool) (s : List ℕ) (at : ℕ) : Type 0 where
  is : optional b text s at ≡ Is (optionally b (part_of s (part_if b s at))) (end_if b s at)
  there : b ≡ true → at < length s
  within : Within s (part_if b s at)

opt_known : (b : Bool) (s : List ℕ) (at : ℕ) {x : Option Text} {next : ℕ} → optional b text s at ≡ Is x next → KnownIf b s at
unfolding optional
opt_known true s at e = let k = text_known s at (map_told (text s at) e).1 in record { is = rw k.is; there = λ z. omega (arith, k.within); within = k.within }
opt_known false s at e = record { is = refl; there = λ z. absurd (false≢true z); within = omega arith }

-- ---- the numbers: how many there are, by the map
abbrev pub count : ℕ → ℕ
count m = m / 2 % 4 + m / 8 % 2 + m / 16 % 2

numbers_told : (m : ℕ) (s : List ℕ) (at : ℕ) {x : Numbers} {next : ℕ} → at ≤ length s → read_numbers m s at ≡ Is x next → (next ≡ at + 8 * count m) × (next ≤ length s)
numbers_told m s at {x} {next} h e = go (dec_le (at + 8 * (m / 2 % 2 + 2 * (m / 4 % 2) + m / 8 % 2 + m / 16 % 2)) (length s))
  where
    go : Dec (at + 8 * (m / 2 % 2 + 2 * (m / 4 % 2) + m / 8 % 2 + m / 16 % 2) ≤ length s) → (next ≡ at + 8 * count m) × (next ≤ length s)
    go (yes k) =
        let a = numbers_are m s at _ _ _ _ _ (omega arith) refl refl refl refl refl in
        let q : at + 8 * (m / 2 % 2) + 8 * (m / 4 % 2) + 8 * (m / 4 % 2) + 8 * (m / 8 % 2) + 8 * (m / 16 % 2) ≡ next = cc in
        (omega arith, omega arith)
    go (no k) = no_fault (numbers_cut m s at h (omega arith)) e

-- ---- the fields behind the map: the type stands at the offset at
abbrev pub numbers_at : ℕ → List ℕ → ℕ → ℕ
numbers_at m s at = end_if (bit m 0) s (at + 1 + get_or s at 0)

abbrev pub script_at : ℕ → List ℕ → ℕ → ℕ
script_at m s at = numbers_at m s at + 8 * count m

pub record Fields (m : ℕ) (s : List ℕ) (at next : ℕ) : Type 0 where
  pub type_there : at < length s
  pub type_in : at + 1 + get_or s at 0 ≤ length s
  pub rom_there : bit m 0 ≡ true → at + 1 + get_or s at 0 < length s
  pub numbers_in : script_at m s at ≤ length s
  pub script_there : bit m 5 ≡ true → script_at m s at < length s
  pub ends : next ≡ end_if (bit m 5) s (script_at m s at)

-- the fields by their lengths alone, where N has the numbers
pub record FieldsKnown (code m : ℕ) (s : List ℕ) (at : ℕ) (N : AsRead.Numbers) : Type 0 where
  pub is : read_fields code m s at ≡ Is (record_with code m (part s (at + 1) (get_or s at 0)) (optionally (bit m 0) (part_of s (part_if (bit m 0) s (at + 1 + get_or s at 0)))) (numbers_of m N) (optionally (bit m 5) (part_of s (part_if (bit m 5) s N.next)))) (end_if (bit m 5) s N.next)
  pub type_within : at + 1 + get_or s at 0 ≤ length s
  pub rom_within : Within s (part_if (bit m 0) s (at + 1 + get_or s at 0))
  pub script_within : Within s (part_if (bit m 5) s N.next)

module _ (code m : ℕ) (s : List ℕ) (at : ℕ) {r : Record} {end : ℕ} (e : read_fields code m s at ≡ Is r end) where
  pub fields_code : r.code_point ≡ code
  unfolding read_fields
  fields_code =
      let type = then_is (text s at) _ e in
      let rom = then_is (optional (bit m 0) text s type.next) _ type.rest in
      let numbers = then_is (read_numbers m s rom.next) _ rom.rest in
      let script = then_is (optional (bit m 5) text s numbers.next) _ numbers.rest in
      let q : record_with code m type.value rom.value numbers.value script.value ≡ r = cc in
      rw (← q)

  fields_told : Fields m s at end
  unfolding read_fields
  fields_told =
      let type = then_is (text s at) _ e in
      let rom = then_is (optional (bit m 0) text s type.next) _ type.rest in
      let numbers = then_is (read_numbers m s rom.next) _ rom.rest in
      let script = then_is (optional (bit m 5) text s numbers.next) _ numbers.rest in
      let t = text_known s at type.first in
      let tn : at + 1 + get_or s at 0 ≡ type.next = is_next t.is type.first in
      let o = opt_known (bit m 0) s type.next rom.first in
      let rn : end_if (bit m 0) s type.next ≡ rom.next = is_next o.is rom.first in
      let n = numbers_told m s rom.next (ends_at s (opt_text_ends s type.next (bit m 0) (ends_at s (text_ends s at) type.first)) rom.first) numbers.first in
      let p = opt_known (bit m 5) s numbers.next script.first in
      let q : script.next ≡ end = cc in
      record {
        type_there = omega (arith, t.within);
        type_in = t.within;
        rom_there = rw tn o.there;
        numbers_in = rw (tn, rn, ← n.0) n.1;
        script_there = rw (tn, rn, ← n.0) p.there;
        ends = rw (tn, rn, ← n.0) (sym q ∙ sym (is_next p.is script.first));
      }

  -- the record that the lengths say, where N has its numbers
  module _ (N : AsRead.Numbers) (n : Is (numbers_of m N) N.next ≡ read_numbers m s (numbers_at m s at)) where
    fields_known : FieldsKnown code m s at N
    unfolding read_fields
    fields_known =
        let type = then_is (text s at) _ e in
        let rom = then_is (optional (bit m 0) text s type.next) _ type.rest in
        let numbers = then_is (read_numbers m s rom.next) _ rom.rest in
        let script = then_is (optional (bit m 5) text s numbers.next) _ numbers.rest in
        let t = text_known s at type.first in
        let tn : type.next ≡ at + 1 + get_or s at 0 = sym (is_next t.is type.first) in
        let r = opt_known (bit m 0) s type.next rom.first in
        let o : KnownIf (bit m 0) s (at + 1 + get_or s at 0) = rw tn at r in
        let rn : rom.next ≡ numbers_at m s at = sym (is_next r.is rom.first) ∙ ap (λ (k : ℕ). end_if (bit m 0) s k) tn in
        let nn : numbers.next ≡ N.next = is_next numbers.first (ap (λ (k : ℕ). read_numbers m s k) rn ∙ sym n) in
        let q = opt_known (bit m 5) s numbers.next script.first in
        let p : KnownIf (bit m 5) s N.next = rw nn at q in
        record {
          is = rw (t.is, o.is, ← n, p.is);
          type_within = t.within;
          rom_within = o.within;
          script_within = p.within;
        }

-- ---- a record
module _ (s : List ℕ) (at : ℕ) {r : Record} {end : ℕ} (e : read_record s at ≡ Is r end) where
  record_fields : (at + 5 ≤ length s) × (read_fields (le_at s at 4) (get_or s (at + 4) 0) s (at + 5) ≡ Is r end)
  record_fields = there (dec_le (at + 5) (length s))
    where
      plain : at + 5 ≤ length s → Dec (128 ≤ get_or s (at + 4) 0) → read_fields (le_at s at 4) (get_or s (at + 4) 0) s (at + 5) ≡ Is r end
      plain h (yes k) = no_fault (record_bit_7 s at h k) e
      plain h (no k) = record_is s at h refl (omega arith) refl ∙ e

      there : Dec (at + 5 ≤ length s) → (at + 5 ≤ length s) × (read_fields (le_at s at 4) (get_or s (at + 4) 0) s (at + 5) ≡ Is r end)
      there (yes h) = (h, plain h (dec_le 128 (get_or s (at + 4) 0)))
      there (no h) = no_fault (record_cut s at (omega arith)) e

  pub record_begins : (at + 4 ≤ length s) × (r.code_point ≡ le_at s at 4)
  record_begins = let f = record_fields in (omega (arith, f.0), fields_code (le_at s at 4) (get_or s (at + 4) 0) s (at + 5) f.1)

  pub record_told : Fields (get_or s (at + 4) 0) s (at + 5) end
  record_told = fields_told (le_at s at 4) (get_or s (at + 4) 0) s (at + 5) record_fields.1

  -- p is the record, where its fields are those by the lengths
  pub record_known : (N : AsRead.Numbers) → Is (numbers_of (get_or s (at + 4) 0) N) N.next ≡ read_numbers (get_or s (at + 4) 0) s (numbers_at (get_or s (at + 4) 0) s (at + 5))
      → FieldsKnown (le_at s at 4) (get_or s (at + 4) 0) s (at + 5) N × (read_record s at ≡ read_fields (le_at s at 4) (get_or s (at + 4) 0) s (at + 5))
  record_known N n = let f = record_fields in (fields_known (le_at s at 4) (get_or s (at + 4) 0) s (at + 5) f.1 N n, e ∙ sym f.1)

-- a record that stands ends where its fields do
pub stands_told : {s : List ℕ} {at next : ℕ} → Stands s at next → Fields (get_or s (at + 4) 0) s (at + 5) next
stands_told {s} {at} h = record_told s at h.reads

pub stands_at_lem : {s : List ℕ} {at next k : ℕ} → Stands s at next → k ≡ next → Stands s at k
stands_at_lem h e = rw e h

-- ---- a record that stands, read by its lengths
module _ {s : List ℕ} {at end : ℕ} (stands : Stands s at end) where
  pub script_behind : (N : AsRead.Numbers) → let m = get_or s (at + 4) 0 in Is (numbers_of m N) N.next ≡ read_numbers m s (numbers_at m s (at + 5)) → N.next ≡ script_at m s (at + 5)
  script_behind N n = let t = stands_told stands in (numbers_told (get_or s (at + 4) 0) s (numbers_at (get_or s (at + 4) 0) s (at + 5)) (omega (arith, t.numbers_in)) (sym n)).0

  pub known_is : (c : ℕ) (ty rom : Part) (N : AsRead.Numbers) (script : Part) (next : ℕ) → let m = get_or s (at + 4) 0 in
      Is (numbers_of m N) N.next ≡ read_numbers m s (numbers_at m s (at + 5)) → c ≡ le_at s at 4 → ty ≡ part_if true s (at + 5)
      → rom ≡ part_if (bit m 0) s (at + 5 + 1 + get_or s (at + 5) 0) → script ≡ part_if (bit m 5) s N.next → next ≡ end_if (bit m 5) s N.next
      → let p : NumProp = record { code_point = c; map = m; num_type = ty; rom = rom; numbers = N; script = script; next = next } in
      (Is (record_of s p) next ≡ read_record s at) × Inside s p
  unfolding record_of
  known_is c ty rom N script next n ec et er es en =
      let k = record_known s at stands.reads N n in
      (rw (ec, et, er, es, en) (sym k.0.is ∙ sym k.1), record { type_within = rw et k.0.type_within; rom_within = rw er k.0.rom_within; script_within = rw es k.0.script_within })
