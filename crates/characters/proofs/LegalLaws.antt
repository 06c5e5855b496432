-- What the table's check (table/specs/Check.antt) says of each record, and so of the one that is found for a character. No contract cites this file.
-- In order: the records one by one; the table and its count; a count that is too high; the record of a character.
use mathlib.Core.Path.{◌≡◌, refl, ap, ◌∙◌}
use mathlib.Core.Bool.{Bool, true, false, cond}
use mathlib.Core.List.{List, [], ◌∷◌}
use mathlib.Core.Option.{some}
use Prim.Native.Nat.{ℕ, zero, suc, ◌+◌, ◌≤◌}
use native.Mathlib.Omega.{arith}
use native.Mathlib.Decide.{dec_le}
use lib.ListN.{length}
use lib.Dec.{eqb}
use Rattle.fields.specs.Fields.{le_at}
use Rattle.table.specs.Table.{Text, Record, Table, find}
use Rattle.table.specs.Layout.{Field, Is, Fault, on_field, number, read_record, many_at, records_at}
use Rattle.table.specs.Check.{Fine, Refused, item, legal_record, read_list, read_records, read_table, bad_layout}
use Rattle.table.proofs.LayoutLaws.{number_is, number_cut}
use Rattle.table.proofs.LookupLaws.{item_fine, then_fine}
use Rattle.pass_list.specs.StoredEdge.{Every, nil, cons}

-- the record r stands in the table's bytes s, and may
pub record Lawful (s : List ℕ) (r : Record) : Type 0 where
  pub at : ℕ
  pub next : ℕ
  pub reads : read_record s at ≡ Is r next
  pub least : ℕ
  pub legal : legal_record least r ≡ true

-- records that were read: each is lawful, and there are as many as were asked for
records_told : (n least : ℕ) (s : List ℕ) (at : ℕ) {rs : List Record} {end : ℕ} → read_records n least s at ≡ Fine rs end → Every (Lawful s) rs × (length rs ≡ n)
unfolding read_records
records_told zero least s at {rs} e = let q : [] ≡ rs = cc in rw (← q) (nil, refl)
records_told (suc n) least s at {rs} e =
    let one = then_fine (item at (legal_record least) (read_record s at)) _ e in
    let r = one.value in
    let more = then_fine (read_records n (r.code_point + 1) s one.next) _ one.rest in
    let q : r ∷ more.value ≡ rs = cc in
    let told = records_told n (r.code_point + 1) s one.next more.first in
    let here = item_fine at (legal_record least) (read_record s at) one.first in
    rw (← q) (cons (record { at = at; next = one.next; reads = here.0; least = least; legal = here.1 }) told.0, ap suc told.1)

-- a table begins with the count of its records
head_told : (s : List ℕ) {n next : ℕ} → item 0 (λ n. true) (number 2 s 0) ≡ Fine n next → (2 ≤ length s) × (n ≡ le_at s 0 2)
unfolding item
head_told s {n} {next} e = go (dec_le 2 (length s))
  where
    go : Dec (2 ≤ length s) → (2 ≤ length s) × (n ≡ le_at s 0 2)
    go (yes h) = let q = rw (number_is s 0 2 h) at e in (h, cc)
    go (no h) = let q = rw (number_cut s 0 2 (omega arith)) at e in let z : ◌≡◌ {A = ℕ} 0 1 = cc in absurd (omega arith)

pub record Told (s : List ℕ) (rs : List Record) : Type 0 where
  pub long : 2 ≤ length s
  pub lawful : Every (Lawful s) rs
  pub counted : length rs ≡ le_at s 0 2

pub table_told_lem : (s : List ℕ) {t : Table} {end : ℕ} → read_table s ≡ Fine t end → Told s t.records
unfolding read_table
table_told_lem s {t} {end} e =
    let count = then_fine (item 0 (λ n. true) (number 2 s 0)) _ e in
    let p = then_fine (read_list s count.next) _ count.rest in
    let f = then_fine (read_list s p.next) _ p.rest in
    let u = then_fine (read_list s f.next) _ f.rest in
    let m = then_fine (read_list s u.next) _ u.rest in
    let rs = then_fine (read_records count.value 0 s m.next) _ m.rest in
    let head = head_told s count.first in
    let told = records_told count.value 0 s m.next rs.first in
    go p.value f.value u.value m.value rs.value rs.next (eqb rs.next (length s)) rs.rest (record { long = head.0; lawful = told.0; counted = told.1 ∙ head.1 })
  where
    go : (p f u m : List Text) (rs : List Record) (k : ℕ) (b : Bool)
        → cond b (Fine (record { percentage_markers = p; fraction_connectors = f; plus_signs = u; minus_signs = m; records = rs }) k) (Refused bad_layout k) ≡ Fine t end
        → Told s rs → Told s t.records
    go p f u m rs k true g h = let q : record { percentage_markers = p; fraction_connectors = f; plus_signs = u; minus_signs = m; records = rs } ≡ t = cc in rw (← q) h
    go p f u m rs k false g h = let z : ◌≡◌ {A = ℕ} 0 1 = cc in absurd (omega arith)

-- a higher count gives no more records than there are
pub records_first : (n : ℕ) (s : List ℕ) (at : ℕ) → records_at (length (records_at n s at)) s at ≡ records_at n s at
unfolding many_at
records_first zero s at = refl
records_first (suc n) s at = go (λ next. records_first n s next) (read_record s at) refl
  where
    go : ((next : ℕ) → records_at (length (records_at n s next)) s next ≡ records_at n s next) → (f : Field Record) → read_record s at ≡ f → records_at (length (on_field f (λ r next. r ∷ records_at n s next) [])) s at ≡ on_field f (λ r next. r ∷ records_at n s next) []
    go behind (Is r next) e = rw e (ap (λ (l : List Record). r ∷ l) (behind next))
    go behind Fault e = refl

pub found_lawful : {s : List ℕ} (rs : List Record) (c : ℕ) {r : Record} → Every (Lawful s) rs → find rs c ≡ some r → Lawful s r
unfolding find
found_lawful [] c h e = let z : ◌≡◌ {A = ℕ} 0 1 = cc in absurd (omega arith)
found_lawful {s} (x ∷ rs) c {r} (cons p h) e = go (λ f. found_lawful rs c h f) (eqb x.code_point c) e
  where
    go : (find rs c ≡ some r → Lawful s r) → (b : Bool) → cond b (some x) (find rs c) ≡ some r → Lawful s r
    go more true f = let q : x ≡ r = cc in rw (← q) p
    go more false f = more f
