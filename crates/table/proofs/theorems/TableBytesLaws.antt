-- A legal table's bytes are read back as that table: `complete` (`specs/TableBytes.antt`, `specs/Check.antt`). No contract cites this file.
-- In order: bytes that stand at an offset; numbers and strings; fields that may be absent; a record; lists and records in a row; the table.
use mathlib.Core.Path.{◌≡◌, refl, sym, ap, ◌∙◌, subst}
use mathlib.Core.Logic.{◌⊎◌, inl, inr}
use mathlib.Core.Bool.{Bool, true, ◌&&◌}
use mathlib.Core.List.{List, [], ◌∷◌, ◌++◌, append_assoc, append-nil}
use mathlib.Core.Option.{Option, none, some}
use Prim.Native.Nat.{ℕ, suc, ◌+◌, ◌*◌, ◌/◌, ◌%◌, ◌^◌, ◌≤◌, ◌<◌}
use native.Mathlib.Nat.{le_refl}
use native.Mathlib.Omega.{arith}
use lib.ListN.{length, take, drop, length-append}
use lib.Seq.{drop-drop, drop-append_seam, drop-length, take_at}
use lib.Dec.{leb, ltb, eqb}
use borrow.Author.Tests.{le-leb, lt-ltb, leb-true, eq-eqb}
use Rattle.text.specs.Table.{within}
use Rattle.text.specs.Sequence.{scalar}
use Rattle.text.proofs.RowLaws.{and-true, or-true}
use Rattle.whole.specs.Whole.{TOP}
use Rattle.fields.specs.Fields.{le, le_at, bytes_of}
use Rattle.fields.specs.Part.{part}
use Rattle.fields.proofs.FieldsLaws.{length-bytes_of, le-bytes_of}
use Rattle.fields.specs.Flag.{there, flag, bytes_if}
use Rattle.fields.proofs.FlagLaws.{there_le, flag_le, flag_stands}
use Rattle.table.specs.Table.{Text, Record, Table}
use Rattle.table.specs.Layout.{Field, Is, bit, number, text_of, text, fraction, optional, read_numbers, numbers_in, record_with, read_fields, read_record}
use Rattle.table.specs.Check.{Fine, item, all_of, small, positive, legal_ratio, legal_mark, legal_code_point, legal_texts, legal_numbers, digit_rule, legal_record, read_texts, read_list, read_records, read_table}
use Rattle.table.specs.TableBytes.{string, in_row, list, pair, map_of, record_bytes, table_bytes, short, short_texts, legal_strings, legal_list, legal_records, legal}
use Rattle.table.proofs.LayoutLaws.{number_is, fields_are}
use Rattle.table.proofs.CheckLaws.{item_legal}

-- ---- the bytes b stand in s from an offset on, and end at next
pub record Stands (s : List ℕ) (at : ℕ) (b : List ℕ) (next : ℕ) : Type 0 where
  pub ends : next ≡ at + length b
  pub inside : next ≤ length s
  pub bytes : drop at s ≡ b ++ drop next s

pub record Split (s : List ℕ) (at : ℕ) (a b : List ℕ) (next : ℕ) : Type 0 where
  pub seam : ℕ
  pub first : Stands s at a seam
  pub second : Stands s seam b next

pub split : {s : List ℕ} {at next : ℕ} (a b : List ℕ) → Stands s at (a ++ b) next → Split s at a b next
split {s} {at} {next} a b h =
    let l : length (a ++ b) ≡ length a + length b = length-append a b in
    let e : drop at s ≡ a ++ (b ++ drop next s) = h.bytes ∙ append_assoc a b (drop next s) in
    let d : drop (at + length a) s ≡ b ++ drop next s = sym (drop-drop (length a) at s) ∙ ap (drop (length a)) e ∙ drop-append_seam a (b ++ drop next s) in
    let n : next ≡ at + length (a ++ b) = h.ends in
    let w : next ≤ length s = h.inside in
    record {
      seam = at + length a;
      first = record { ends = refl; inside = omega arith; bytes = e ∙ ap (λ (t : List ℕ). a ++ t) (sym d) };
      second = record { ends = omega arith; inside = w; bytes = d };
    }

stands_whole : (b : List ℕ) → Stands b 0 b (length b)
stands_whole b = record { ends = omega arith; inside = le_refl (length b); bytes = sym (ap (λ (t : List ℕ). b ++ t) (drop-length b) ∙ append-nil b) }

part_stands : {s : List ℕ} {at next : ℕ} {b : List ℕ} → Stands s at b next → (n : ℕ) → length b ≡ n → part s at n ≡ b
unfolding part
part_stands {s} {at} {next} {b} k n l = ap (take n) k.bytes ∙ take_at b (drop next s) n l

-- ---- numbers and strings
bytes_read : {s : List ℕ} {at next : ℕ} {b : List ℕ} (w n : ℕ) → length b ≡ w → le b ≡ n → Stands s at b next → number w s at ≡ Is n next
unfolding le_at
bytes_read {s} {at} {next} w n l v k =
    let z : at + w ≡ next = omega (arith, k.ends) in
    number_is s at w (omega (arith, k.inside)) ∙ rw (part_stands k w l, v, z)

number_read : {s : List ℕ} {at next : ℕ} (w n : ℕ) → n < 2 ^ (8 * w) → Stands s at (bytes_of w n) next → number w s at ≡ Is n next
number_read w n h k = bytes_read w n (length-bytes_of w n) (le-bytes_of w n h) k

byte_read : {s : List ℕ} {at next : ℕ} (n : ℕ) → Stands s at (n ∷ []) next → number 1 s at ≡ Is n next
unfolding le
byte_read n k = bytes_read 1 n refl (omega arith) k

text_read : {s : List ℕ} {at next : ℕ} (t : Text) → length t ≤ 60 → Stands s at (string t) next → text s at ≡ Is t next
unfolding text text_of string
text_read {s} {at} {next} t h k =
    let p = split (length t ∷ []) t k in
    let z : p.seam + length t ≡ next = sym p.second.ends in
    rw (byte_read (length t) p.first) (simp (le-leb (length t) 60 h, z, le-leb next (length s) k.inside, part_stands p.second (length t) refl))

fraction_read : {s : List ℕ} {at next : ℕ} (r : ℕ × ℕ) → (r.0 ≤ TOP) × (r.1 ≤ TOP) → Stands s at (pair r) next → fraction s at ≡ Is r next
unfolding fraction
fraction_read (n, d) h k =
    let p = split (bytes_of 8 n) (bytes_of 8 d) k in
    rw (number_read 8 n (omega (arith, h.0)) p.first, number_read 8 d (omega (arith, h.1)) p.second)

-- ---- a field that may be absent
optional_read : {A : Type 0} {s : List ℕ} {at next : ℕ} (f : A → List ℕ) (p : List ℕ → ℕ → Field A) (o : Option A) {x : ℕ} → x ≡ there o
    → ((a : A) → o ≡ some a → Stands s at (f a) next → p s at ≡ Is a next) → Stands s at (bytes_if f o) next → optional (eqb x 1) p s at ≡ Is o next
unfolding optional
optional_read {A} {s} {at} {next} f p none e r k = let z : at ≡ next = omega (arith, k.ends) in rw (e, z)
optional_read f p (some a) e r k = rw (e, r a refl k)

-- ---- the bits of a map
module _ (a b c d e f g : ℕ) (la : a ≤ 1) (lb : b ≤ 1) (lc : c ≤ 1) (ld : d ≤ 1) (le : e ≤ 1) (lf : f ≤ 1) (lg : g ≤ 1) where
  abbrev sum : ℕ
  sum = a + 2 * b + 4 * c + 8 * d + 16 * e + 32 * f + 64 * g

  bits : (sum / 1 % 2 ≡ a) × (sum / 2 % 2 ≡ b) × (sum / 4 % 2 ≡ c) × (sum / 8 % 2 ≡ d) × (sum / 16 % 2 ≡ e) × (sum / 32 % 2 ≡ f) × (sum / 64 % 2 ≡ g) × (sum < 128)
  bits = (omega arith, omega arith, omega arith, omega arith, omega arith, omega arith, omega arith, omega arith)

record Bits (r : Record) (m : ℕ) : Type 0 where
  pub rom : m / 1 % 2 ≡ there r.rom
  pub value : m / 2 % 2 ≡ there r.value
  pub fraction : m / 4 % 2 ≡ there r.fraction
  pub base : m / 8 % 2 ≡ there r.base
  pub mult : m / 16 % 2 ≡ there r.mult
  pub script : m / 32 % 2 ≡ there r.script
  pub large : m / 64 % 2 ≡ flag r.large_power
  pub low : m < 128

map_bits : (r : Record) → Bits r (map_of r)
unfolding map_of
map_bits r =
    let b =
    bits (there r.rom) (there r.value) (there r.fraction) (there r.base) (there r.mult) (there r.script) (flag r.large_power)
    (there_le r.rom) (there_le r.value) (there_le r.fraction) (there_le r.base) (there_le r.mult) (there_le r.script) (flag_le r.large_power) in
    record { rom = b.0; value = b.1; fraction = b.2; base = b.3; mult = b.4; script = b.5; large = b.6; low = b.7 }

-- ---- what a legal record's fields keep to
record Fits (r : Record) : Type 0 where
  pub code : r.code_point < 4294967296
  pub type : length r.type ≤ 60
  pub rom : (t : Text) → r.rom ≡ some t → length t ≤ 60
  pub script : (t : Text) → r.script ≡ some t → length t ≤ 60
  pub value : (n : ℕ) → r.value ≡ some n → n ≤ TOP
  pub fraction : (p : ℕ × ℕ) → r.fraction ≡ some p → (p.0 ≤ TOP) × (p.1 ≤ TOP)
  pub base : (n : ℕ) → r.base ≡ some n → n ≤ TOP
  pub mult : (n : ℕ) → r.mult ≡ some n → n ≤ TOP

all_some : {A : Type 0} (p : A → Bool) (o : Option A) → all_of p o ≡ true → (a : A) → o ≡ some a → p a ≡ true
unfolding all_of
all_some {A} p o h a e = subst (λ (x : Option A). all_of p x ≡ true) e h

code_fits : (least c : ℕ) → legal_code_point least c ≡ true → c < 4294967296
unfolding legal_code_point
code_fits least c e = go (or-true (within 0 0xD7FF c) (within 0xE000 0x10FFFF c) (and-true (leb least c) (scalar c) e).1)
  where
    go : (within 0 0xD7FF c ≡ true) ⊎ (within 0xE000 0x10FFFF c ≡ true) → c < 4294967296
    go (inl h) = omega (arith, leb-true c 0xD7FF (and-true (leb 0 c) (leb c 0xD7FF) h).1)
    go (inr h) = omega (arith, leb-true c 0x10FFFF (and-true (leb 0xE000 c) (leb c 0x10FFFF) h).1)

positive_fits : (n : ℕ) → positive n ≡ true → n ≤ TOP
positive_fits n h = leb-true n TOP (and-true (ltb 0 n) (small n) h).1

ratio_fits : (p : ℕ × ℕ) → legal_ratio p ≡ true → (p.0 ≤ TOP) × (p.1 ≤ TOP)
ratio_fits (n, d) h = let q = and-true (small n) (positive d) h in (leb-true n TOP q.0, positive_fits d q.1)

fits : (least : ℕ) (r : Record) → short_texts r ≡ true → legal_record least r ≡ true → Fits r
unfolding short_texts short legal_record legal_numbers
fits least r h k =
    let t = and-true (short r.type && all_of short r.rom) (all_of short r.script) h in
    let u = and-true (short r.type) (all_of short r.rom) t.0 in
    let l = and-true (legal_code_point least r.code_point) (legal_texts r && (legal_numbers (numbers_in r) && digit_rule r)) k in
    let q = and-true (legal_texts r) (legal_numbers (numbers_in r) && digit_rule r) l.1 in
    let n = and-true (legal_numbers (numbers_in r)) (digit_rule r) q.1 in
    let m = and-true (all_of small r.value && all_of legal_ratio r.fraction && all_of positive r.base) (all_of small r.mult) n.0 in
    let b = and-true (all_of small r.value && all_of legal_ratio r.fraction) (all_of positive r.base) m.0 in
    let v = and-true (all_of small r.value) (all_of legal_ratio r.fraction) b.0 in
    record {
      code = code_fits least r.code_point l.0;
      type = leb-true (length r.type) 60 u.0;
      rom = λ x e. leb-true (length x) 60 (all_some short r.rom u.1 x e);
      script = λ x e. leb-true (length x) 60 (all_some short r.script t.1 x e);
      value = λ x e. leb-true x TOP (all_some small r.value v.0 x e);
      fraction = λ p e. ratio_fits p (all_some legal_ratio r.fraction v.1 p e);
      base = λ x e. positive_fits x (all_some positive r.base b.1 x e);
      mult = λ x e. leb-true x TOP (all_some small r.mult m.1 x e);
    }

-- ---- a record
-- the bytes up to a field
module _ (r : Record) where
  abbrev to_map : List ℕ
  to_map = bytes_of 4 r.code_point ++ (map_of r ∷ [])

  abbrev to_type : List ℕ
  to_type = to_map ++ string r.type

  abbrev to_rom : List ℕ
  to_rom = to_type ++ bytes_if string r.rom

  abbrev to_value : List ℕ
  to_value = to_rom ++ bytes_if (bytes_of 8) r.value

  abbrev to_fraction : List ℕ
  to_fraction = to_value ++ bytes_if pair r.fraction

  abbrev to_base : List ℕ
  to_base = to_fraction ++ bytes_if (bytes_of 8) r.base

  abbrev to_mult : List ℕ
  to_mult = to_base ++ bytes_if (bytes_of 8) r.mult

number_if_lem : {s : List ℕ} {at next : ℕ} (o : Option ℕ) {x : ℕ} → x ≡ there o → ((n : ℕ) → o ≡ some n → n ≤ TOP) → Stands s at (bytes_if (bytes_of 8) o) next
    → optional (eqb x 1) (number 8) s at ≡ Is o next
number_if_lem o e h k = optional_read (bytes_of 8) (number 8) o e (λ n q. number_read 8 n (let l = h n q in omega arith)) k

text_if : {s : List ℕ} {at next : ℕ} (o : Option Text) {x : ℕ} → x ≡ there o → ((t : Text) → o ≡ some t → length t ≤ 60) → Stands s at (bytes_if string o) next
    → optional (eqb x 1) text s at ≡ Is o next
text_if o e h k = optional_read string text o e (λ t q. text_read t (h t q)) k

record_read : {s : List ℕ} {at next : ℕ} (r : Record) → Fits r → Stands s at (record_bytes r) next → read_record s at ≡ Is r next
unfolding record_bytes read_record read_numbers
record_read {s} {at} {next} r f h =
    let b = map_bits r in
    let script = split (to_mult r) (bytes_if string r.script) h in
    let mult = split (to_base r) (bytes_if (bytes_of 8) r.mult) script.first in
    let base = split (to_fraction r) (bytes_if (bytes_of 8) r.base) mult.first in
    let ratio = split (to_value r) (bytes_if pair r.fraction) base.first in
    let value = split (to_rom r) (bytes_if (bytes_of 8) r.value) ratio.first in
    let rom = split (to_type r) (bytes_if string r.rom) value.first in
    let type = split (to_map r) (string r.type) rom.first in
    let map = split (bytes_of 4 r.code_point) (map_of r ∷ []) type.first in
    let numbers : read_numbers (map_of r) s value.seam ≡ Is (numbers_in r) script.seam
    = rw (
      number_if_lem r.value b.value f.value value.second,
      optional_read pair fraction r.fraction b.fraction (λ p q. fraction_read p (f.fraction p q)) ratio.second,
      number_if_lem r.base b.base f.base base.second,
      number_if_lem r.mult b.mult f.mult mult.second,
    ) in
    let large : bit (map_of r) 6 ≡ r.large_power = ap (λ (x : ℕ). eqb x 1) b.large ∙ flag_stands r.large_power in
    let whole : record_with r.code_point (map_of r) r.type r.rom (numbers_in r) r.script ≡ r
    = ap (λ (x : Bool). record { code_point = r.code_point; type = r.type; rom = r.rom; value = r.value; fraction = r.fraction; base = r.base; mult = r.mult; script = r.script; large_power = x }) large in
    let fields : read_fields r.code_point (map_of r) s type.seam ≡ Is r next
    = sym (fields_are r.code_point (map_of r) s type.seam (text_read r.type f.type type.second) (text_if r.rom b.rom f.rom rom.second) numbers
    (text_if r.script b.script f.script script.second)) ∙ ap (λ (x : Record). Is x next) whole in
    rw (number_read 4 r.code_point f.code map.first, byte_read (map_of r) map.second) (simp (lt-ltb (map_of r) 128 b.low) fields)

-- ---- lists and records in a row
texts_read : {s : List ℕ} {at next : ℕ} (ts : List Text) → legal_strings ts ≡ true → Stands s at (in_row string ts) next → read_texts (length ts) s at ≡ Fine ts next
unfolding read_texts in_row legal_strings short
texts_read {s} {at} {next} [] h k = let z : at ≡ next = omega (arith, k.ends) in rw z
texts_read {s} {at} {next} (t ∷ ts) h k =
    let l = and-true (short t && legal_mark t) (legal_strings ts) h in
    let m = and-true (short t) (legal_mark t) l.0 in
    let p = split (string t) (in_row string ts) k in
    rw (← item_legal at legal_mark (text_read t (leb-true (length t) 60 m.0) p.first) m.1, texts_read {at = p.seam} ts l.1 p.second)

list_read : {s : List ℕ} {at next : ℕ} (ts : List Text) → legal_list ts ≡ true → Stands s at (list ts) next → read_list s at ≡ Fine ts next
unfolding read_list list legal_list item
list_read ts h k =
    let p = split (length ts ∷ []) (in_row string ts) k in
    rw (byte_read (length ts) p.first) (texts_read ts (and-true (ltb (length ts) 256) (legal_strings ts) h).1 p.second)

records_read : {s : List ℕ} {at next : ℕ} (least : ℕ) (rs : List Record) → legal_records least rs ≡ true → Stands s at (in_row record_bytes rs) next
    → read_records (length rs) least s at ≡ Fine rs next
unfolding read_records in_row legal_records
records_read {s} {at} {next} least [] h k = let z : at ≡ next = omega (arith, k.ends) in rw z
records_read {s} {at} {next} least (r ∷ rs) h k =
    let l = and-true (short_texts r && legal_record least r) (legal_records (r.code_point + 1) rs) h in
    let m = and-true (short_texts r) (legal_record least r) l.0 in
    let p = split (record_bytes r) (in_row record_bytes rs) k in
    rw (← item_legal at (legal_record least) (record_read r (fits least r m.0 m.1) p.first) m.1, records_read {at = p.seam} (r.code_point + 1) rs l.1 p.second)

-- ---- the table
-- its bytes up to a list
module _ (t : Table) where
  abbrev to_percentages : List ℕ
  to_percentages = bytes_of 2 (length t.records) ++ list t.percentage_markers

  abbrev to_connectors : List ℕ
  to_connectors = to_percentages ++ list t.fraction_connectors

  abbrev to_plus : List ℕ
  to_plus = to_connectors ++ list t.plus_signs

  abbrev to_minus : List ℕ
  to_minus = to_plus ++ list t.minus_signs

record LegalParts (t : Table) : Type 0 where
  pub count : length t.records < 65536
  pub percentages : legal_list t.percentage_markers ≡ true
  pub connectors : legal_list t.fraction_connectors ≡ true
  pub plus : legal_list t.plus_signs ≡ true
  pub minus : legal_list t.minus_signs ≡ true
  pub records : legal_records 0 t.records ≡ true

legal_parts : (t : Table) → legal t ≡ true → LegalParts t
unfolding legal
legal_parts t h =
    let c = ltb (length t.records) 65536 in
    let p = legal_list t.percentage_markers in
    let f = legal_list t.fraction_connectors in
    let u = legal_list t.plus_signs in
    let m = legal_list t.minus_signs in
    let l6 = and-true (c && p && f && u && m) (legal_records 0 t.records) h in
    let l5 = and-true (c && p && f && u) m l6.0 in
    let l4 = and-true (c && p && f) u l5.0 in
    let l3 = and-true (c && p) f l4.0 in
    let l2 = and-true c p l3.0 in
    record { count = leb-true (suc (length t.records)) 65536 l2.0; percentages = l2.1; connectors = l3.1; plus = l4.1; minus = l5.1; records = l6.1 }

table_read : {s : List ℕ} (t : Table) → LegalParts t → Stands s 0 (table_bytes t) (length s) → read_table s ≡ Fine t (length s)
unfolding read_table table_bytes item
table_read {s} t l h =
    let records = split (to_minus t) (in_row record_bytes t.records) h in
    let minus = split (to_plus t) (list t.minus_signs) records.first in
    let plus = split (to_connectors t) (list t.plus_signs) minus.first in
    let connectors = split (to_percentages t) (list t.fraction_connectors) plus.first in
    let percentages = split (bytes_of 2 (length t.records)) (list t.percentage_markers) connectors.first in
    rw (
      number_read 2 (length t.records) l.count percentages.first,
      list_read t.percentage_markers l.percentages percentages.second,
      list_read t.fraction_connectors l.connectors connectors.second,
      list_read t.plus_signs l.plus plus.second,
      list_read t.minus_signs l.minus minus.second,
      records_read 0 t.records l.records records.second,
    ) (simp (eq-eqb (length s) (length s) refl))

-- what is a table is accepted, and read as that table
pub complete : (t : Table) → legal t ≡ true → read_table (table_bytes t) ≡ Fine t (length (table_bytes t))
complete t h = table_read t (legal_parts t h) (stands_whole (table_bytes t))
