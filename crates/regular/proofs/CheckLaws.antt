-- Laws of the check (`specs/CheckRegular.antt`), for the proofs of this crate's functions. No contract cites this file.
-- In order: a record by its fields; a walk over the records; the answer for a table.
use Prim.Native.Nat.{ℕ, zero, suc, ◌+◌, ◌-◌, ◌≤◌, ◌<◌}
use mathlib.Core.Path.{◌≡◌, refl, sym, ap, ◌∙◌, subst}
use mathlib.Core.Bool.{Bool, true, false, cond, ◌&&◌, ◌||◌, not}
use mathlib.Core.List.{List, [], ◌∷◌}
use mathlib.Core.Option.{Option, none, some}
use native.Mathlib.Omega.{arith}
use native.Mathlib.Decide.{dec_le}
use lib.ListN.{length}
use lib.Dec.{leb, eqb}
use Rattle.fields.specs.Fields.{le_at}
use Rattle.fields.specs.Part.{part_of}
use Rattle.text.specs.declared.Offset.{Offset}
use Rattle.table.specs.Table.{Text, Record, Table}
use Rattle.table.specs.Layout.{Is, bit, number, read_record, records_at}
use Rattle.table.specs.Check.{Checked, Fine, is_digit_type, item, legal_record, read_list, read_records, read_table, bad_layout}
use Rattle.table.specs.Check as Check
use Rattle.table.specs.Answers.{optionally, record_of, end_of, table_of, table_answer}
use Rattle.table.specs.Walk.{Stands}
use Rattle.table.specs.declared.layout.NumProp.{NumProp}
use Rattle.table.specs.declared.shape.Shape.{Shape}
use Rattle.table.proofs.LayoutLaws.{number_is, number_cut, many_cons}
use Rattle.table.proofs.LookupLaws.{item_fine, then_fine}
use Rattle.table.proofs.CheckLaws.{records_end}
use Rattle.table.proofs.index.IndexLaws.{full_stands}
use Rattle.table_check.specs.Shape.{shape_of, ShapeIs, TableIs}
use Rattle.table_check.proofs.ShapeLaws.{shape_is}
use Rattle.passes.specs.NumEdge.{or_zero, has}
use Rattle.passes.specs.Renaming.{gap_char}
use Rattle.passes.proofs.ChainsAlike.{Each}
use Rattle.table_grammar.specs.Kinds.{exactly, at_most, at_least, regular_record}
use Rattle.regular.specs.CheckRegular.{of_four_kinds, irregular_at, irregular, check_regular}
use Rattle.std.specs.Prelude.{Some, None, Result, Ok, Err}
use Rattle.table.specs.declared.shape.TableRefusal.{TableRefusal}
use Rattle.std.specs.Prelude as std

-- ---- a record by its fields
by_fields : (d large gap : Bool) (v b : Option ℕ)
    → of_four_kinds d (has v) (or_zero v) (or_zero b) large gap
    ≡ (d && at_most 9 v && exactly 1 b && not large) || (at_least 10 v && at_least 2 b && leb (or_zero b) (or_zero v) && not large && not gap) || (at_least 10 v && at_least 2 b && large)
    || (not (has v) && (leb (or_zero b) 1 || large) && not gap)
unfolding of_four_kinds
by_fields true large gap none none = refl
by_fields true large gap none (some b) = refl
by_fields true large gap (some v) none = refl
by_fields true large gap (some v) (some b) = refl
by_fields false large gap none none = refl
by_fields false large gap none (some b) = refl
by_fields false large gap (some v) none = refl
by_fields false large gap (some v) (some b) = refl

has_if : (b : Bool) (n : ℕ) → has (optionally b n) ≡ b
has_if true n = refl
has_if false n = refl

pub record_told : (s : List ℕ) (p : NumProp) {d : Bool} {v b : ℕ} {r : Bool} → d ≡ is_digit_type (part_of s p.num_type)
    → v ≡ or_zero (optionally (bit p.map 1) p.numbers.value) → b ≡ or_zero (optionally (bit p.map 3) p.numbers.base)
    → r ≡ of_four_kinds d (bit p.map 1) v b (bit p.map 6) (gap_char p.code_point) → r ≡ regular_record (record_of s p)
unfolding record_of
record_told s p d-is v-is b-is e =
    e ∙ rw (d-is, v-is, b-is) (ap (λ (h : Bool). of_four_kinds (is_digit_type (part_of s p.num_type)) h (or_zero (optionally (bit p.map 1) p.numbers.value)) (or_zero (optionally (bit p.map 3) p.numbers.base)) (bit p.map 6) (gap_char p.code_point)) (sym (has_if (bit p.map 1) p.numbers.value)))
    ∙ by_fields (is_digit_type (part_of s p.num_type)) (bit p.map 6) (gap_char p.code_point) (optionally (bit p.map 1) p.numbers.value) (optionally (bit p.map 3) p.numbers.base)

-- ---- a walk over n records from the offset from on, of which left are left, from the offset at on
pub record Walk (s : List ℕ) (n from at left : ℕ) : Type 0 where
  pub full : length (records_at left s at) ≡ left
  pub same : irregular_at left s at ≡ irregular_at n s from

irregular_none : (s : List ℕ) (at left : ℕ) → left ≤ 0 → irregular_at left s at ≡ none
unfolding irregular_at
irregular_none s at zero h = refl
irregular_none s at (suc n) h = absurd (omega arith)

irregular_turn : (s : List ℕ) (at left : ℕ) {r : Record} {next : ℕ} → 0 < left → read_record s at ≡ Is r next
    → irregular_at left s at ≡ cond (regular_record r) (irregular_at (left - 1) s next) (some at)
unfolding irregular_at
irregular_turn s at zero h e = absurd (omega arith)
irregular_turn s at (suc n) h e = let m : suc n - 1 ≡ n = omega arith in rw (m, e)

pub walk_start : (s : List ℕ) (n from : ℕ) → length (records_at n s from) ≡ n → Walk s n from from n
walk_start s n from h = record { full = h; same = refl }

module _ {s : List ℕ} {n from at left : ℕ} (w : Walk s n from at left) where
  pub walk_end : left ≤ 0 → None ≡ irregular (irregular_at n s from)
  walk_end h = ap irregular (sym (irregular_none s at left h) ∙ w.same)

  module _ (some_left : 0 < left) where
    pub walk_stands : (next : ℕ) × Stands s at next
    walk_stands = full_stands s left at w.full some_left

    module _ (p : NumProp) (reads : Is (record_of s p) p.next ≡ read_record s at) where
      turn : {b : Bool} → regular_record (record_of s p) ≡ b → irregular_at left s at ≡ cond b (irregular_at (left - 1) s p.next) (some at)
      turn k = irregular_turn s at left some_left (sym reads) ∙ ap (λ (b : Bool). cond b (irregular_at (left - 1) s p.next) (some at)) k

      pub walk_here : regular_record (record_of s p) ≡ false → Some (record { 0 = at }) ≡ irregular (irregular_at n s from)
      walk_here k = ap irregular (sym (turn k) ∙ w.same)

      pub walk_next : regular_record (record_of s p) ≡ true → {rest : ℕ} → rest ≡ left - 1 → Walk s n from p.next rest
      walk_next k m = rw m (record {
        full = omega (arith, ap length (many_cons read_record s at left (λ e. omega arith) (sym reads)), w.full);
        same = sym (turn k) ∙ w.same;
      })

-- ---- the answer for a table

-- the record may stand in a table, where its code point must be no lower than some number
abbrev pub Legal : Record → Type 0
Legal r = (least : ℕ) × (legal_record least r ≡ true)

-- as many records were read as were asked for, and each may stand
records_told : (n least : ℕ) (s : List ℕ) (at : ℕ) {rs : List Record} {end : ℕ} → read_records n least s at ≡ Fine rs end → (length rs ≡ n) × Each Legal rs
unfolding read_records
records_told zero least s at {rs} e = let q : [] ≡ rs = cc in rw (← q) (refl, tt)
records_told (suc n) least s at {rs} e =
    let one = then_fine (item at (legal_record least) (read_record s at)) _ e in
    let r = one.value in
    let more = then_fine (read_records n (r.code_point + 1) s one.next) _ one.rest in
    let q : r ∷ more.value ≡ rs = cc in
    let told = records_told n (r.code_point + 1) s one.next more.first in
    rw (← q) (ap suc told.0, ((least, (item_fine at (legal_record least) (read_record s at) one.first).1), told.1))

head_count : (s : List ℕ) {n next : ℕ} → item 0 (λ n. true) (number 2 s 0) ≡ Fine n next → n ≡ le_at s 0 2
unfolding item
head_count s {n} {next} e = go (dec_le 2 (length s))
  where
    go : Dec (2 ≤ length s) → n ≡ le_at s 0 2
    go (yes h) = let q = rw (number_is s 0 2 h) at e in cc
    go (no h) = let q = rw (number_cut s 0 2 (omega arith)) at e in let z : ◌≡◌ {A = ℕ} 0 1 = cc in absurd (omega arith)

head_next : (s : List ℕ) {n next : ℕ} → item 0 (λ n. true) (number 2 s 0) ≡ Fine n next → next ≡ 2
unfolding item
head_next s {n} {next} e = go (dec_le 2 (length s))
  where
    go : Dec (2 ≤ length s) → next ≡ 2
    go (yes h) = let q = rw (number_is s 0 2 h) at e in cc
    go (no h) = let q = rw (number_cut s 0 2 (omega arith)) at e in let z : ◌≡◌ {A = ℕ} 0 1 = cc in absurd (omega arith)

-- the records stand where the table's shape says, there are as many as the table begins with, and each may stand
pub record Standing (s : List ℕ) (rs : List Record) : Type 0 where
  pub these : rs ≡ records_at (shape_of s).count s (shape_of s).records
  pub counted : length rs ≡ le_at s 0 2
  pub legal : Each Legal rs

shape_records : (s : List ℕ) {n k a b c d : ℕ} {p f u m : List Text} {rs : List Record} {end : ℕ} → n ≡ le_at s 0 2 → k ≡ 2
    → read_list s k ≡ Fine p a → read_list s a ≡ Fine f b → read_list s b ≡ Fine u c → read_list s c ≡ Fine m d → read_records n 0 s d ≡ Fine rs end → Standing s rs
shape_records s {n} {k} {a} {b} {c} {d} {p} {f} {u} {m} {rs} {end} n-is two first second third fourth e =
    let here : Fine rs end ≡ Fine (records_at n s d) end = sym e ∙ records_end n s d (sym (ap end_of e)) in
    let same : rs ≡ records_at n s d = cc in
    let shape = shape_is s n-is (subst (λ (k : ℕ). read_list s k ≡ Fine p a) two first) second third fourth in
    record { these = same ∙ ap (λ (h : Shape). records_at h.count s h.records) shape; counted = (records_told n 0 s d e).0 ∙ n-is; legal = (records_told n 0 s d e).1 }

pub table_records : (s : List ℕ) {t : Table} {end : ℕ} → read_table s ≡ Fine t end → Standing s t.records
unfolding read_table
table_records s {t} {end} e =
    let count = then_fine (item 0 (λ n. true) (number 2 s 0)) _ e in
    let p = then_fine (read_list s count.next) _ count.rest in
    let f = then_fine (read_list s p.next) _ p.rest in
    let u = then_fine (read_list s f.next) _ f.rest in
    let m = then_fine (read_list s u.next) _ u.rest in
    let rs = then_fine (read_records count.value 0 s m.next) _ m.rest in
    go p.value f.value u.value m.value rs.value rs.next (eqb rs.next (length s)) rs.rest
    (shape_records s (head_count s count.first) (head_next s count.first) p.first f.first u.first m.first rs.first)
  where
    go : (p f u m : List Text) (rs : List Record) (k : ℕ) (b : Bool)
        → cond b (Fine (record { percentage_markers = p; fraction_connectors = f; plus_signs = u; minus_signs = m; records = rs }) k) (Check.Refused bad_layout k) ≡ Fine t end
        → Standing s rs → Standing s t.records
    go p f u m rs k true g h = let q : record { percentage_markers = p; fraction_connectors = f; plus_signs = u; minus_signs = m; records = rs } ≡ t = cc in rw (← q) h
    go p f u m rs k false g h = let z : ◌≡◌ {A = ℕ} 0 1 = cc in absurd (omega arith)

module _ (s : List ℕ) {r : Result Shape TableRefusal} (is : TableIs s r) where
  module _ {h : Shape} (e : r ≡ Ok h) where
    read_is : read_table s ≡ Fine (table_of s h) (length s)
    read_is = sym is.table ∙ ap (table_answer s) e

    shaped : h ≡ shape_of s
    unfolding ShapeIs
    shaped = rw e at is.shape

    pub table_full : length (records_at h.count s h.records) ≡ h.count
    unfolding table_of shape_of
    table_full = (table_records s read_is).counted ∙ ap (λ (x : Shape). x.count) (sym shaped)

    pub answer_table : {x : std.Option Offset} → x ≡ irregular (irregular_at h.count s h.records) → Ok x ≡ check_regular s
    unfolding check_regular
    answer_table q = ap Ok q ∙ rw (read_is, ← shaped)

  pub answer_refused : {e : TableRefusal} → r ≡ Err e → Err e ≡ check_regular s
  unfolding check_regular
  answer_refused e = rw (sym is.table ∙ ap (table_answer s) e)
