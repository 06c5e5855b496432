-- Laws of rising records. No contract cites this file.
-- In order: the records from a code point on; among them it is found as among all; the first record decides; a table's records rise.
use mathlib.Core.Path.{◌≡◌, refl, sym, ap, ◌∙◌}
use mathlib.Core.Bool.{Bool, true, false, cond, ◌&&◌}
use mathlib.Core.List.{List, [], ◌∷◌}
use mathlib.Core.Option.{none, some}
use Prim.Native.Nat.{ℕ, zero, suc, ◌+◌, ◌≤◌, ◌<◌}
use native.Mathlib.Omega.{arith}
use lib.ListN.{length}
use lib.Dec.{leb, ltb, eqb}
use borrow.Author.Tests.{le-leb, le-ltb, ltb-true, ltb-false, leb-true, ne_eqb}
use Rattle.table.specs.Table.{Text, Record, Table, find}
use Rattle.table.specs.Layout.{Field, Is, Fault, number, read_record}
use Rattle.table.specs.Check.{Checked, Fine, Refused, then_item, item, legal_record, legal_code_point, rising, read_list, read_records, read_table, bad_layout, bad_content}

-- ---- the records from the first on whose code point is not below c
unfoldable pub drop_below : ℕ → List Record → List Record
drop_below c [] = []
drop_below c (r ∷ rs) = cond (ltb r.code_point c) (drop_below c rs) (r ∷ rs)

pub drop_stops : (c : ℕ) (r : Record) (rs : List Record) → c ≤ r.code_point → drop_below c (r ∷ rs) ≡ r ∷ rs
unfolding drop_below
drop_stops c r rs h = simp (le-ltb r.code_point c h)

by : {A : Type 0} (P : A → Type 0) (b : Bool) {x y : A} → (b ≡ true → P x) → (b ≡ false → P y) → P (cond b x y)
by P true f g = f refl
by P false f g = g refl

-- who looked for c may look for d, no lower, among the rest
pub find_dropped : (c d : ℕ) (rs : List Record) → c ≤ d → find (drop_below c rs) d ≡ find rs d
unfolding drop_below find
find_dropped c d [] h = refl
find_dropped c d (r ∷ rs) h =
    by (λ l. find l d ≡ cond (eqb r.code_point d) (some r) (find rs d)) (ltb r.code_point c)
    (λ t. let k : r.code_point < c = ltb-true _ _ t in find_dropped c d rs h ∙ simp (ne_eqb r.code_point d (λ e. omega arith)))
    (λ t. refl)

-- ---- rising records
and_l : (a b : Bool) → (a && b) ≡ true → a ≡ true
and_l true b e = refl
and_l false b e = e

and_r : (a b : Bool) → (a && b) ≡ true → b ≡ true
and_r true b e = e
and_r false b e = let z : ◌≡◌ {A = ℕ} 0 1 = cc in absurd (omega arith)

module _ (least : ℕ) (r : Record) (rs : List Record) (h : rising least (r ∷ rs) ≡ true) where
  rising_first : least ≤ r.code_point
  unfolding rising
  rising_first = leb-true _ _ (and_l (leb least r.code_point) _ h)

  rising_rest : rising (r.code_point + 1) rs ≡ true
  unfolding rising
  rising_rest = and_r (leb least r.code_point) _ h

rising_nil : (least : ℕ) → rising least [] ≡ true
unfolding rising
rising_nil least = refl

rising_cons : (least : ℕ) (r : Record) (rs : List Record) → least ≤ r.code_point → rising (r.code_point + 1) rs ≡ true → rising least (r ∷ rs) ≡ true
unfolding rising
rising_cons least r rs h e = simp (le-leb least r.code_point h, e)

pub rising_lower : (least k : ℕ) (rs : List Record) → least ≤ k → rising k rs ≡ true → rising least rs ≡ true
unfolding rising
rising_lower least k [] h e = refl
rising_lower least k (r ∷ rs) h e = rising_cons least r rs (omega (arith, rising_first k r rs e)) (rising_rest k r rs e)

pub rising_dropped : (c least : ℕ) (rs : List Record) → rising least rs ≡ true → rising least (drop_below c rs) ≡ true
unfolding drop_below
rising_dropped c least [] e = e
rising_dropped c least (r ∷ rs) e =
    by (λ l. rising least l ≡ true) (ltb r.code_point c)
    (λ t. rising_lower least (r.code_point + 1) (drop_below c rs) (omega (arith, rising_first least r rs e)) (rising_dropped c (r.code_point + 1) rs (rising_rest least r rs e)))
    (λ t. e)

find_none : (c least : ℕ) (rs : List Record) → rising least rs ≡ true → c < least → find rs c ≡ none
unfolding find
find_none c least [] e h = refl
find_none c least (r ∷ rs) e h =
    let k = rising_first least r rs e in
    rw (find_none c (r.code_point + 1) rs (rising_rest least r rs e) (omega arith)) (simp (ne_eqb r.code_point c (λ q. omega arith)))

-- the first record that is not below c decides
first_decides : (c least : ℕ) (r : Record) (rs : List Record) → rising least (r ∷ rs) ≡ true → c ≤ r.code_point → find (r ∷ rs) c ≡ cond (eqb r.code_point c) (some r) none
unfolding find
first_decides c least r rs e h = rw (find_none c (r.code_point + 1) rs (rising_rest least r rs e) (omega arith))

dropped_head : (c : ℕ) (l : List Record) {r : Record} {rs : List Record} → r ∷ rs ≡ drop_below c l → c ≤ r.code_point
unfolding drop_below
dropped_head c [] e = let z : ◌≡◌ {A = ℕ} 0 1 = cc in absurd (omega arith)
dropped_head c (x ∷ l) {r} {rs} e = go (λ f. dropped_head c l f) (ltb x.code_point c) refl e
  where
    go : (r ∷ rs ≡ drop_below c l → c ≤ r.code_point) → (b : Bool) → ltb x.code_point c ≡ b → r ∷ rs ≡ cond b (drop_below c l) (x ∷ l) → c ≤ r.code_point
    go more true t f = more f
    go more false t f = let q : r ≡ x = cc in rw q (ltb-false _ _ t)

module _ (c : ℕ) (l : List Record) (h : rising 0 l ≡ true) where
  module _ {r : Record} {rs : List Record} (e : r ∷ rs ≡ drop_below c l) where
    decided : cond (eqb r.code_point c) (some r) none ≡ find l c
    decided =
        let up : rising 0 (r ∷ rs) ≡ true = rw e (rising_dropped c 0 l h) in
        sym (first_decides c 0 r rs up (dropped_head c l e)) ∙ ap (λ (x : List Record). find x c) e ∙ find_dropped c c l (omega arith)

    pub found_other : (r.code_point ≡ c → ⊥) → none ≡ find l c
    found_other q = simp (ne_eqb r.code_point c q) at decided

-- ---- a table's records rise
pub item_fine : {A : Type 0} (at : ℕ) (legal : A → Bool) (f : Field A) {a : A} {next : ℕ} → item at legal f ≡ Fine a next → (f ≡ Is a next) × (legal a ≡ true)
unfolding item
item_fine at legal Fault e = let z : ◌≡◌ {A = ℕ} 0 1 = cc in absurd (omega arith)
item_fine at legal (Is b m) {a} {next} e = go (legal b) refl e
  where
    go : (t : Bool) → legal b ≡ t → cond t (Fine b m) (Refused bad_content at) ≡ Fine a next → (Is b m ≡ Is a next) × (legal a ≡ true)
    go true t f = let q : b ≡ a = cc in (cc, ap legal (sym q) ∙ t)
    go false t f = let z : ◌≡◌ {A = ℕ} 0 1 = cc in absurd (omega arith)

pub record Then {A B : Type 0} (x : Checked A) (k : A → ℕ → Checked B) (b : B) (end : ℕ) : Type 0 where
  pub value : A
  pub next : ℕ
  pub first : x ≡ Fine value next
  pub rest : k value next ≡ Fine b end

pub then_fine : {A B : Type 0} (x : Checked A) (k : A → ℕ → Checked B) {b : B} {end : ℕ} → then_item x k ≡ Fine b end → Then x k b end
then_fine (Fine a next) k e = record { value = a; next = next; first = refl; rest = e }
then_fine (Refused number at) k e = let z : ◌≡◌ {A = ℕ} 0 1 = cc in absurd (omega arith)

legal_least : (least : ℕ) (r : Record) → legal_record least r ≡ true → least ≤ r.code_point
unfolding legal_record legal_code_point
legal_least least r e = leb-true _ _ (and_l (leb least r.code_point) _ (and_l (legal_code_point least r.code_point) _ e))

pub records_rise : (n least : ℕ) (s : List ℕ) (at : ℕ) {rs : List Record} {end : ℕ} → read_records n least s at ≡ Fine rs end → rising least rs ≡ true
unfolding read_records
records_rise zero least s at {rs} e = let q : [] ≡ rs = cc in rw (← q) (rising_nil least)
records_rise (suc n) least s at {rs} e =
    let one = then_fine (item at (legal_record least) (read_record s at)) _ e in
    let r = one.value in
    let more = then_fine (read_records n (r.code_point + 1) s one.next) _ one.rest in
    let q : r ∷ more.value ≡ rs = cc in
    rw (← q) (rising_cons least r more.value (legal_least least r (item_fine at (legal_record least) (read_record s at) one.first).1) (records_rise n (r.code_point + 1) s one.next more.first))

pub table_rises : (s : List ℕ) {t : Table} {end : ℕ} → read_table s ≡ Fine t end → rising 0 t.records ≡ true
unfolding read_table
table_rises s {t} {end} e =
    let count = then_fine (item 0 (λ n. true) (number 2 s 0)) _ e in
    let p = then_fine (read_list s count.next) _ count.rest in
    let f = then_fine (read_list s p.next) _ p.rest in
    let u = then_fine (read_list s f.next) _ f.rest in
    let m = then_fine (read_list s u.next) _ u.rest in
    let rs = then_fine (read_records count.value 0 s m.next) _ m.rest in
    go p.value f.value u.value m.value rs.value rs.next (eqb rs.next (length s)) rs.rest (records_rise count.value 0 s m.next rs.first)
  where
    go : (p f u m : List Text) (rs : List Record) (k : ℕ) (b : Bool)
        → cond b (Fine (record { percentage_markers = p; fraction_connectors = f; plus_signs = u; minus_signs = m; records = rs }) k) (Refused bad_layout k) ≡ Fine t end
        → rising 0 rs ≡ true → rising 0 t.records ≡ true
    go p f u m rs k true g h = let q : record { percentage_markers = p; fraction_connectors = f; plus_signs = u; minus_signs = m; records = rs } ≡ t = cc in rw (← q) h
    go p f u m rs k false g h = let z : ◌≡◌ {A = ℕ} 0 1 = cc in absurd (omega arith)
