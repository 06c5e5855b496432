-- What is accepted is a legal table, and the bytes are that table's and no more (`sound`). No contract cites this file.
-- In order: bytes in a row; what holds of what was read; a map as the sum of its bits; numbers and strings; a record; lists and records in a row; the table.
use mathlib.Core.Path.{◌≡◌, refl, sym, ap, ◌∙◌, subst}
use mathlib.Core.Bool.{Bool, true, false, cond}
use mathlib.Core.List.{List, [], ◌∷◌, ◌++◌, append_assoc, append-nil}
use mathlib.Core.Option.{Option, some}
use Prim.Native.Nat.{ℕ, zero, suc, ◌+◌, ◌*◌, ◌/◌, ◌%◌, ◌^◌, ◌≤◌, ◌<◌}
use native.Mathlib.Omega.{arith}
use lib.ListN.{length, get_or, take, drop, length-append, take-append-drop}
use lib.Seq.{drop-drop, drop-cons, drop-length}
use lib.Pow.{shr-shr}
use lib.Dec.{leb, ltb, eqb}
use borrow.Author.Tests.{leb-true, ltb-true, eqb-true, lt-ltb}
use Rattle.fields.specs.Fields.{le, le_at, bytes_of}
use Rattle.fields.specs.Part.{part}
use Rattle.fields.proofs.FieldsLaws.{le_at-lt}
use Rattle.fields.proofs.PartLaws.{length_part}
use Rattle.fields.specs.Flag.{there, flag, bytes_if}
use Rattle.fields.proofs.FlagLaws.{flag_is}
use Rattle.table.specs.Table.{Text, Record, Table}
use Rattle.table.specs.Layout.{Field, Is, Fault, map_field, bit, number, text_of, text, fraction, optional, Numbers, read_numbers, record_with, read_fields, read_record}
use Rattle.table.specs.Check.{Checked, Fine, Refused, then_item, item, all_of, legal_mark, legal_record, read_texts, read_list, read_records, read_table, bad_layout, bad_content}
use Rattle.table.specs.TableBytes.{string, in_row, list, pair, map_of, record_bytes, table_bytes, short, short_texts, legal_strings, legal_list, legal_records, legal}
use Rattle.table.proofs.LayoutLaws.{OnField, on_then}
use Rattle.table.proofs.theorems.TableBytesLaws.{Stands, complete}

-- ---- bytes in a row
join : {s : List ℕ} {at seam next : ℕ} {a b : List ℕ} → Stands s at a seam → Stands s seam b next → Stands s at (a ++ b) next
join {s} {at} {seam} {next} {a} {b} f g =
    let l = length-append a b in
    let x : seam ≡ at + length a = f.ends in
    let y : next ≡ seam + length b = g.ends in
    record { ends = omega arith; inside = g.inside; bytes = f.bytes ∙ ap (λ (t : List ℕ). a ++ t) g.bytes ∙ sym (append_assoc a b (drop next s)) }

stands_none : {s : List ℕ} (at : ℕ) → at ≤ length s → Stands s at [] at
stands_none at h = record { ends = omega arith; inside = h; bytes = refl }

stands_part : (s : List ℕ) (at n : ℕ) → at + n ≤ length s → Stands s at (part s at n) (at + n)
unfolding part
stands_part s at n h =
    record {
      ends = ap (λ (k : ℕ). at + k) (sym (length_part s at n h));
      inside = h;
      bytes = sym (ap (λ (t : List ℕ). take n (drop at s) ++ t) (sym (drop-drop n at s)) ∙ take-append-drop n (drop at s));
    }

stands_all : {s b : List ℕ} → Stands s 0 b (length s) → s ≡ b
stands_all {s} {b} h = h.bytes ∙ ap (λ (t : List ℕ). b ++ t) (drop-length s) ∙ append-nil b

-- ---- what holds of what was read
on_map : {A B : Type 0} (P : A → ℕ → Type 0) (Q : B → ℕ → Type 0) (h : A → B) (f : Field A) → OnField P f → ((a : A) (next : ℕ) → P a next → Q (h a) next)
    → OnField Q (map_field h f)
on_map P Q h (Is a next) p g = g a next p
on_map P Q h Fault p g = tt

on_weaken : {A : Type 0} (P Q : A → ℕ → Type 0) (f : Field A) → OnField P f → ((a : A) (next : ℕ) → P a next → Q a next) → OnField Q f
on_weaken P Q (Is a next) p g = g a next p
on_weaken P Q Fault p g = tt

abbrev OnItem : {A : Type 0} → (A → ℕ → Type 0) → Checked A → Type 0
OnItem P (Fine a next) = P a next
OnItem P (Refused number at) = Unit {0}

on_item : {A : Type 0} (P : A → ℕ → Type 0) (at : ℕ) (legal : A → Bool) (f : Field A) → OnField P f → OnItem (λ a next. P a next × (legal a ≡ true)) (item at legal f)
unfolding item
on_item P at legal Fault p = tt
on_item P at legal (Is a next) p = go (legal a) refl
  where
    go : (b : Bool) → legal a ≡ b → OnItem (λ a next. P a next × (legal a ≡ true)) (cond b (Fine a next) (Refused bad_content at))
    go true e = (p, e)
    go false e = tt

on_next : {A B : Type 0} (P : A → ℕ → Type 0) (Q : B → ℕ → Type 0) (x : Checked A) (k : A → ℕ → Checked B) → OnItem P x
    → ((a : A) (next : ℕ) → P a next → OnItem Q (k a next)) → OnItem Q (then_item x k)
on_next P Q (Fine a next) k p g = g a next p
on_next P Q (Refused number at) k p g = tt

on_item_weaken : {A : Type 0} (P Q : A → ℕ → Type 0) (x : Checked A) → OnItem P x → ((a : A) (next : ℕ) → P a next → Q a next) → OnItem Q x
on_item_weaken P Q (Fine a next) p g = g a next p
on_item_weaken P Q (Refused number at) p g = tt

-- ---- a map is the sum of its bits
half : (n : ℕ) → n ≡ n % 2 + 2 * (n / 2)
half n = omega arith

bit_step : (m k x : ℕ) → x ≡ m / 2 ^ k % 2 → m / 2 ^ k ≡ x + 2 * (m / 2 ^ (k + 1))
bit_step m k x b = half (m / 2 ^ k) ∙ ap (λ (y : ℕ). m / 2 ^ k % 2 + 2 * y) (shr-shr m k 1) ∙ ap (λ (y : ℕ). y + 2 * (m / 2 ^ (k + 1))) (sym b)

first_bit : (m : ℕ) → m ≡ m / 1
first_bit m = omega arith

last_bit : (m : ℕ) → m < 128 → m / 64 ≡ m / 64 % 2
last_bit m h = omega arith

sum_bits : {m m0 m1 m2 m3 m4 m5 m6 x6 : ℕ} (x0 x1 x2 x3 x4 x5 : ℕ) → m ≡ m0 → m0 ≡ x0 + 2 * m1 → m1 ≡ x1 + 2 * m2 → m2 ≡ x2 + 2 * m3 → m3 ≡ x3 + 2 * m4 → m4 ≡ x4 + 2 * m5 → m5 ≡ x5 + 2 * m6
    → m6 ≡ x6 → m ≡ x0 + 2 * x1 + 4 * x2 + 8 * x3 + 16 * x4 + 32 * x5 + 64 * x6
sum_bits x0 x1 x2 x3 x4 x5 e e0 e1 e2 e3 e4 e5 e6 = omega arith

-- content that is not looked at yet
abbrev any : {A : Type 0} → A → Bool
any a = true

module _ (s : List ℕ) (low : (i : ℕ) → get_or s i 0 < 256) where
  -- ---- numbers and strings
  bytes_back : (at w : ℕ) → at + w ≤ length s → bytes_of w (le_at s at w) ≡ part s at w
  unfolding le_at le part bytes_of
  bytes_back at zero h = refl
  bytes_back at (suc w) h =
      let k : get_or s at 0 < 256 = low at in
      let m : (get_or s at 0 + 256 * le (take w (drop (suc at) s))) % 256 ≡ get_or s at 0 = omega arith in
      let d : (get_or s at 0 + 256 * le (take w (drop (suc at) s))) / 256 ≡ le (take w (drop (suc at) s)) = omega arith in
      rw (drop-cons s at 0 (omega arith), m, d) (ap (λ (t : List ℕ). get_or s at 0 ∷ t) (bytes_back (suc at) w (omega arith)))

  abbrev NumberIs : ℕ → ℕ → ℕ → ℕ → Type 0
  NumberIs w at n next = (Stands s at (bytes_of w n) next) × (n < 2 ^ (8 * w))

  number_stands : (w at : ℕ) → OnField (NumberIs w at) (number w s at)
  unfolding number
  number_stands w at = go (leb (at + w) (length s)) refl
    where
      go : (b : Bool) → leb (at + w) (length s) ≡ b → OnField (NumberIs w at) (cond b (Is (le_at s at w) (at + w)) Fault)
      go true e =
          let h : at + w ≤ length s = leb-true (at + w) (length s) e in
          (subst (λ (t : List ℕ). Stands s at t (at + w)) (sym (bytes_back at w h)) (stands_part s at w h), le_at-lt s at w low)
      go false e = tt

  abbrev ByteIs : ℕ → ℕ → ℕ → Type 0
  ByteIs at n next = (Stands s at (n ∷ []) next) × (n < 256)

  byte_stands : (at : ℕ) → OnField (ByteIs at) (number 1 s at)
  unfolding bytes_of
  byte_stands at = on_weaken (NumberIs 1 at) (ByteIs at) (number 1 s at) (number_stands 1 at) byte
    where
      byte : (n next : ℕ) → NumberIs 1 at n next → ByteIs at n next
      byte n next p = let k : n < 256 = p.1 in let e : n % 256 ≡ n = omega arith in (subst (λ (x : ℕ). Stands s at (x ∷ []) next) e p.0, k)

  abbrev TextIs : ℕ → Text → ℕ → Type 0
  TextIs at t next = (Stands s at (string t) next) × (short t ≡ true)

  text_stands : (at : ℕ) → OnField (TextIs at) (text s at)
  unfolding text text_of string short
  text_stands at = on_then (ByteIs at) (TextIs at) (number 1 s at) (λ n m. text_of s m n) (byte_stands at) (λ n m p. go n m p.0 (leb n 60) (leb (m + n) (length s)) refl refl)
    where
      go : (n m : ℕ) → Stands s at (n ∷ []) m → (b d : Bool) → leb n 60 ≡ b → leb (m + n) (length s) ≡ d
          → OnField (TextIs at) (cond b (cond d (Is (part s m n) (m + n)) Fault) Fault)
      go n m p true true e f =
          let h : m + n ≤ length s = leb-true (m + n) (length s) f in
          let l : length (part s m n) ≡ n = length_part s m n h in
          (join (subst (λ (x : ℕ). Stands s at (x ∷ []) m) (sym l) p) (stands_part s m n h), ap (λ (k : ℕ). leb k 60) l ∙ e)
      go n m p true false e f = tt
      go n m p false d e f = tt

  abbrev RatioIs : ℕ → ℕ × ℕ → ℕ → Type 0
  RatioIs at x next = (Stands s at (pair x) next) × (any x ≡ true)

  fraction_stands : (at : ℕ) → OnField (RatioIs at) (fraction s at)
  unfolding fraction
  fraction_stands at =
      on_then (NumberIs 8 at) (RatioIs at) (number 8 s at) (λ n m. map_field (λ d. (n, d)) (number 8 s m)) (number_stands 8 at)
      (λ n m p. on_map (NumberIs 8 m) (RatioIs at) (λ d. (n, d)) (number 8 s m) (number_stands 8 m) (λ d next q. (join p.0 q.0, refl)))

  u64_stands : (at : ℕ) → OnField (λ n next. (Stands s at (bytes_of 8 n) next) × (any n ≡ true)) (number 8 s at)
  u64_stands at = on_weaken (NumberIs 8 at) (λ n next. (Stands s at (bytes_of 8 n) next) × (any n ≡ true)) (number 8 s at) (number_stands 8 at) (λ n next p. (p.0, refl))

  abbrev OptIs : {A : Type 0} → (A → List ℕ) → (A → Bool) → ℕ → ℕ → Option A → ℕ → Type 0
  OptIs f ok y at o next = (Stands s at (bytes_if f o) next) × (there o ≡ y) × (all_of ok o ≡ true)

  opt_stands : {A : Type 0} (f : A → List ℕ) (ok : A → Bool) (p : List ℕ → ℕ → Field A) (y at : ℕ) → y < 2 → at ≤ length s
      → OnField (λ a next. (Stands s at (f a) next) × (ok a ≡ true)) (p s at) → OnField (OptIs f ok y at) (optional (eqb y 1) p s at)
  unfolding optional all_of
  opt_stands f ok p zero at h k q = (stands_none at k, refl, refl)
  opt_stands f ok p (suc zero) at h k q = on_map (λ a next. (Stands s at (f a) next) × (ok a ≡ true)) (OptIs f ok 1 at) some (p s at) q (λ a next e. (e.0, refl, e.1))
  opt_stands f ok p (suc (suc y)) at h k q = absurd (omega arith)

  -- ---- a record
  abbrev NumbersAre : ℕ → ℕ → List ℕ → Numbers → ℕ → Type 0
  NumbersAre m at b n next =
      (Stands s at (b ++ bytes_if (bytes_of 8) n.value ++ bytes_if pair n.fraction ++ bytes_if (bytes_of 8) n.base ++ bytes_if (bytes_of 8) n.mult) next)
      × (there n.value ≡ m / 2 % 2) × (there n.fraction ≡ m / 4 % 2) × (there n.base ≡ m / 8 % 2) × (there n.mult ≡ m / 16 % 2)

  numbers_stand : (m start : ℕ) (b : List ℕ) (at : ℕ) → Stands s start b at → OnField (NumbersAre m start b) (read_numbers m s at)
  unfolding read_numbers
  numbers_stand m start b at h =
      on_then (OptIs (bytes_of 8) any (m / 2 % 2) at) (NumbersAre m start b) (optional (bit m 1) (number 8) s at) _ (opt_stands (bytes_of 8) any (number 8) (m / 2 % 2) at (omega arith) h.inside (u64_stands at)) (λ value at1 v.
      on_then (OptIs pair any (m / 4 % 2) at1) (NumbersAre m start b) (optional (bit m 2) fraction s at1) _ (opt_stands pair any fraction (m / 4 % 2) at1 (omega arith) v.0.inside (fraction_stands at1)) (λ ratio at2 f.
      on_then (OptIs (bytes_of 8) any (m / 8 % 2) at2) (NumbersAre m start b) (optional (bit m 3) (number 8) s at2) _ (opt_stands (bytes_of 8) any (number 8) (m / 8 % 2) at2 (omega arith) f.0.inside (u64_stands at2)) (λ base at3 d.
      on_then (OptIs (bytes_of 8) any (m / 16 % 2) at3) (NumbersAre m start b) (optional (bit m 4) (number 8) s at3) _ (opt_stands (bytes_of 8) any (number 8) (m / 16 % 2) at3 (omega arith) d.0.inside (u64_stands at3)) (λ mult next u.
      (join (join (join (join h v.0) f.0) d.0) u.0, v.1, f.1, d.1, u.1)))))

  abbrev RecordIs : ℕ → Record → ℕ → Type 0
  RecordIs at r next = (Stands s at (record_bytes r) next) × (short_texts r ≡ true)

  record_is_read : (c m : ℕ) (type : Text) (rom : Option Text) (n : Numbers) (script : Option Text) {at next : ℕ} → m < 128
      → Stands s at (bytes_of 4 c ++ (m ∷ []) ++ string type ++ bytes_if string rom ++ bytes_if (bytes_of 8) n.value ++ bytes_if pair n.fraction ++ bytes_if (bytes_of 8) n.base ++ bytes_if (bytes_of 8) n.mult ++ bytes_if string script) next
      → there rom ≡ m / 1 % 2 → there n.value ≡ m / 2 % 2 → there n.fraction ≡ m / 4 % 2 → there n.base ≡ m / 8 % 2 → there n.mult ≡ m / 16 % 2 → there script ≡ m / 32 % 2
      → Stands s at (record_bytes (record_with c m type rom n script)) next
  unfolding record_bytes map_of
  record_is_read c m type rom n script {at} {next} l h b0 b1 b2 b3 b4 b5 =
      let b6 : flag (bit m 6) ≡ m / 64 % 2 = flag_is (m / 64 % 2) (omega arith) in
      let e : m ≡ there rom + 2 * there n.value + 4 * there n.fraction + 8 * there n.base + 16 * there n.mult + 32 * there script + 64 * flag (bit m 6)
      = sum_bits (there rom) (there n.value) (there n.fraction) (there n.base) (there n.mult) (there script) (first_bit m) (bit_step m 0 (there rom) b0) (bit_step m 1 (there n.value) b1) (bit_step m 2 (there n.fraction) b2) (bit_step m 3 (there n.base) b3)
      (bit_step m 4 (there n.mult) b4) (bit_step m 5 (there script) b5) (last_bit m l ∙ sym b6) in
      subst (λ (x : ℕ). Stands s at (bytes_of 4 c ++ (x ∷ []) ++ string type ++ bytes_if string rom ++ bytes_if (bytes_of 8) n.value ++ bytes_if pair n.fraction ++ bytes_if (bytes_of 8) n.base ++ bytes_if (bytes_of 8) n.mult ++ bytes_if string script) next) e h

  fields_stand : (c m start at : ℕ) → m < 128 → Stands s start (bytes_of 4 c ++ (m ∷ [])) at → OnField (RecordIs start) (read_fields c m s at)
  unfolding read_fields short_texts
  fields_stand c m start at l h =
      on_then (TextIs at) (RecordIs start) (text s at) _ (text_stands at) (λ type at1 t.
      on_then (OptIs string short (m / 1 % 2) at1) (RecordIs start) (optional (bit m 0) text s at1) _ (opt_stands string short text (m / 1 % 2) at1 (omega arith) t.0.inside (text_stands at1)) (λ rom at2 r.
      on_then (NumbersAre m start (bytes_of 4 c ++ (m ∷ []) ++ string type ++ bytes_if string rom)) (RecordIs start) (read_numbers m s at2) _
      (numbers_stand m start (bytes_of 4 c ++ (m ∷ []) ++ string type ++ bytes_if string rom) at2 (join (join h t.0) r.0)) (λ n at3 k.
      on_then (OptIs string short (m / 32 % 2) at3) (RecordIs start) (optional (bit m 5) text s at3) _ (opt_stands string short text (m / 32 % 2) at3 (omega arith) k.0.inside (text_stands at3)) (λ script next u.
      (record_is_read c m type rom n script l (join k.0 u.0) r.1 k.1 k.2 k.3 k.4 u.1, rw (t.1, r.2, u.2))))))

  record_stands : (at : ℕ) → OnField (RecordIs at) (read_record s at)
  unfolding read_record
  record_stands at =
      on_then (NumberIs 4 at) (RecordIs at) (number 4 s at) _ (number_stands 4 at) (λ c at1 p.
      on_then (ByteIs at1) (RecordIs at) (number 1 s at1) _ (byte_stands at1) (λ m at2 q. go c m at2 (join p.0 q.0) (ltb m 128) refl))
    where
      go : (c m at2 : ℕ) → Stands s at (bytes_of 4 c ++ (m ∷ [])) at2 → (b : Bool) → ltb m 128 ≡ b → OnField (RecordIs at) (cond b (read_fields c m s at2) Fault)
      go c m at2 h true e = fields_stand c m at at2 (ltb-true m 128 e) h
      go c m at2 h false e = tt

  -- ---- lists and records in a row
  abbrev TextsAre : ℕ → ℕ → List Text → ℕ → Type 0
  TextsAre n at ts next = (Stands s at (in_row string ts) next) × (legal_strings ts ≡ true) × (length ts ≡ n)

  texts_stand : (n at : ℕ) → at ≤ length s → OnItem (TextsAre n at) (read_texts n s at)
  unfolding read_texts in_row legal_strings
  texts_stand zero at h = (stands_none at h, refl, refl)
  texts_stand (suc n) at h =
      on_next (λ t next. TextIs at t next × (legal_mark t ≡ true)) (TextsAre (suc n) at) (item at legal_mark (text s at)) _ (on_item (TextIs at) at legal_mark (text s at) (text_stands at)) (λ t at1 p.
      on_next (TextsAre n at1) (TextsAre (suc n) at) (read_texts n s at1) _ (texts_stand n at1 p.0.0.inside) (λ ts next q.
      (join p.0.0 q.0, rw (p.0.1, p.1, q.1), ap suc q.2)))

  abbrev ListIs : ℕ → List Text → ℕ → Type 0
  ListIs at ts next = (Stands s at (list ts) next) × (legal_list ts ≡ true)

  list_stands : (at : ℕ) → OnItem (ListIs at) (read_list s at)
  unfolding read_list list legal_list
  list_stands at =
      on_next (λ n next. ByteIs at n next × (true ≡ true)) (ListIs at) (item at (λ n. true) (number 1 s at)) _ (on_item (ByteIs at) at (λ n. true) (number 1 s at) (byte_stands at)) (λ n at1 p.
      on_item_weaken (TextsAre n at1) (ListIs at) (read_texts n s at1) (texts_stand n at1 p.0.0.inside) (λ ts next q.
      let k : length ts < 256 = rw q.2 p.0.1 in
      (join (subst (λ (x : ℕ). Stands s at (x ∷ []) at1) (sym q.2) p.0.0) q.0, simp (lt-ltb (length ts) 256 k) q.1)))

  abbrev RecordsAre : ℕ → ℕ → ℕ → List Record → ℕ → Type 0
  RecordsAre n least at rs next = (Stands s at (in_row record_bytes rs) next) × (legal_records least rs ≡ true) × (length rs ≡ n)

  records_stand : (n least at : ℕ) → at ≤ length s → OnItem (RecordsAre n least at) (read_records n least s at)
  unfolding read_records in_row legal_records
  records_stand zero least at h = (stands_none at h, refl, refl)
  records_stand (suc n) least at h =
      on_next (λ r next. RecordIs at r next × (legal_record least r ≡ true)) (RecordsAre (suc n) least at) (item at (legal_record least) (read_record s at)) _ (on_item (RecordIs at) at (legal_record least) (read_record s at) (record_stands at)) (λ r at1 p.
      on_next (RecordsAre n (r.code_point + 1) at1) (RecordsAre (suc n) least at) (read_records n (r.code_point + 1) s at1) _ (records_stand n (r.code_point + 1) at1 p.0.0.inside) (λ rs next q.
      (join p.0.0 q.0, rw (p.0.1, p.1, q.1), ap suc q.2)))

  -- ---- the table
  abbrev TableIs : Table → ℕ → Type 0
  TableIs t next = (Stands s 0 (table_bytes t) next) × (legal t ≡ true) × (next ≡ length s)

  table_ends : (t : Table) (end : ℕ) → Stands s 0 (table_bytes t) end → legal t ≡ true → (b : Bool) → eqb end (length s) ≡ b → OnItem TableIs (cond b (Fine t end) (Refused bad_layout end))
  table_ends t end h l true e = (h, l, eqb-true end (length s) e)
  table_ends t end h l false e = tt

  table_stands : OnItem TableIs (read_table s)
  unfolding read_table table_bytes legal
  table_stands =
      on_next (λ n next. NumberIs 2 0 n next × (true ≡ true)) TableIs (item 0 (λ n. true) (number 2 s 0)) _ (on_item (NumberIs 2 0) 0 (λ n. true) (number 2 s 0) (number_stands 2 0)) (λ n a c.
      on_next (ListIs a) TableIs (read_list s a) _ (list_stands a) (λ p a1 hp.
      on_next (ListIs a1) TableIs (read_list s a1) _ (list_stands a1) (λ f a2 hf.
      on_next (ListIs a2) TableIs (read_list s a2) _ (list_stands a2) (λ u a3 hu.
      on_next (ListIs a3) TableIs (read_list s a3) _ (list_stands a3) (λ m a4 hm.
      on_next (RecordsAre n 0 a4) TableIs (read_records n 0 s a4) _ (records_stand n 0 a4 hm.0.inside) (λ rs end hr.
      let k : length rs < 65536 = rw hr.2 c.0.1 in
      let count : Stands s 0 (bytes_of 2 (length rs)) a = subst (λ (x : ℕ). Stands s 0 (bytes_of 2 x) a) (sym hr.2) c.0.0 in
      table_ends (record { percentage_markers = p; fraction_connectors = f; plus_signs = u; minus_signs = m; records = rs }) end
      (join (join (join (join (join count hp.0) hf.0) hu.0) hm.0) hr.0)
      (simp (lt-ltb (length rs) 65536 k, hp.1, hf.1, hu.1, hm.1) hr.1) (eqb end (length s)) refl))))))

-- what is accepted is a table, and nothing but its bytes
pub sound : (s : List ℕ) → ((i : ℕ) → get_or s i 0 < 256) → {t : Table} {n : ℕ} → read_table s ≡ Fine t n → (s ≡ table_bytes t) × (legal t ≡ true)
sound s low {t} {n} e =
    let h : TableIs s low t n = subst (OnItem (TableIs s low)) e (table_stands s low) in
    (stands_all (subst (λ (k : ℕ). Stands s 0 (table_bytes t) k) h.2 h.0), h.1)

-- legal tables with equal bytes are equal
pub bytes_injective : (t u : Table) → legal t ≡ true → legal u ≡ true → table_bytes t ≡ table_bytes u → t ≡ u
bytes_injective t u h k e = let a = complete t h in let b = complete u k in let c = ap read_table e in cc
