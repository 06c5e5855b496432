-- Laws of `specs/Index.antt`. No contract cites this file.
-- In order: the records from an offset on, one at a time; a turn of `find_from`; a turn of `index_record`; the index with an entry more, with a bit more in its filter; where a search in it ends.
use mathlib.Core.Path.{◌≡◌, refl, sym, ap, subst, ◌∙◌}
use mathlib.Core.Bool.{Bool, true, not}
use mathlib.Core.List.{List, [], ◌∷◌}
use mathlib.Core.Option.{none, some}
use Prim.Native.Nat.{ℕ, ◌+◌, ◌-◌, ◌*◌, ◌/◌, ◌≤◌, ◌<◌}
use native.Mathlib.Omega.{arith}
use native.Mathlib.Nat.{eq-or-lt_of_le, mul-le-mul_right, add-mul}
use native.Mathlib.Decide.{dec_le}
use mathlib.Core.Logic.{⊎_elim}
use lib.ListN.{length, get_or, set, length-set}
use lib.Seq.{get_or-set_same, get_or-set_other}
use lib.Dec.{leb}
use borrow.Author.Tests.{leb-true, eq-eqb, ne_eqb, not-true, not-false}
use Rattle.fields.specs.Fields.{le_at}
use Rattle.text.proofs.RowLaws.{and-true}
use Rattle.table.specs.Table.{Record, find, is_none}
use Rattle.table.specs.Layout.{Field, Is, Fault, read_record, records_at}
use Rattle.table.specs.Check.{rising}
use Rattle.table.specs.Answers.{record_of, Inside}
use Rattle.table.specs.declared.layout.NumProp.{NumProp}
use Rattle.table.proofs.LayoutLaws.{many_nil, many_fault, many_cons}
use Rattle.table.proofs.LookupLaws.{rising_lower, drop_stops, found_other}
use Rattle.table.specs.Walk.{Stands}
use Rattle.table.proofs.record.WalkLaws.{record_begins}
use Rattle.table.specs.Filter.{mark, with_mark, Filtered}
use Rattle.table.proofs.filter.FilterLaws.{entry_kept}
use Rattle.table.specs.Index.{FoundAt, FoundIs, Whole, RecordsTail, RecordsAhead, Entry, stride_of, Entered, IndexGrowing, Filtering}
use Rattle.table.specs.declared.index.Index.{Index}
use Rattle.std.specs.Prelude.{Option, Some, None, is_some}

-- ---- lists of records
find_nil : (c : ℕ) → find [] c ≡ none
unfolding find
find_nil c = refl

find_here : (c : ℕ) (r : Record) (rs : List Record) → r.code_point ≡ c → find (r ∷ rs) c ≡ some r
unfolding find
find_here c r rs e = simp (eq-eqb r.code_point c e)

find_behind : (c : ℕ) (r : Record) (rs : List Record) → (r.code_point ≡ c → ⊥) → find (r ∷ rs) c ≡ find rs c
unfolding find
find_behind c r rs n = simp (ne_eqb r.code_point c n)

rising_parts : (least : ℕ) (r : Record) (rs : List Record) → rising least (r ∷ rs) ≡ true → (least ≤ r.code_point) × (rising (r.code_point + 1) rs ≡ true)
unfolding rising
rising_parts least r rs h = let p = and-true (leb least r.code_point) (rising (r.code_point + 1) rs) h in (leb-true _ _ p.0, p.1)

-- ---- the records from an offset on
module _ (t : List ℕ) (left at : ℕ) where
  pub rest_none : left ≤ 0 → records_at left t at ≡ []
  rest_none h = sym (many_nil read_record t at left (omega arith))

  pub rest_fault : read_record t at ≡ Fault → records_at left t at ≡ []
  rest_fault e = sym (many_fault read_record t at left e)

  rest_cons : {r : Record} {next : ℕ} → read_record t at ≡ Is r next → 0 < left → records_at left t at ≡ r ∷ records_at (left - 1) t next
  rest_cons reads h = sym (many_cons read_record t at left (λ e. omega arith) reads)

  module _ (full : length (records_at left t at) ≡ left) (some_left : 0 < left) where
    -- none of so many records is at fault
    pub full_stands : (next : ℕ) × Stands t at next
    full_stands = go (read_record t at) refl
      where
        go : (f : Field Record) → read_record t at ≡ f → (next : ℕ) × Stands t at next
        go (Is r next) e = (next, record { prop = r; reads = e })
        go Fault e = absurd (omega (arith, ap length (rest_fault e)))

    -- its code point is there
    pub full_begins : at + 4 ≤ length t
    full_begins = (record_begins t at full_stands.1.reads).0

    full_next : {r : Record} {next : ℕ} → read_record t at ≡ Is r next → length (records_at (left - 1) t next) ≡ left - 1
    full_next reads = omega (arith, ap length (rest_cons reads some_left))

-- ---- a turn of `find_from`
module _ (t : List ℕ) (rs : List Record) (c at left : ℕ) (a : RecordsAhead t rs c at left) where
  pub turn_none : records_at left t at ≡ [] → find rs c ≡ none
  turn_none e = sym a.finds ∙ rw e (find_nil c)

  turn_fault : read_record t at ≡ Fault → find rs c ≡ none
  turn_fault e = turn_none (rest_fault t left at e)

  module _ (some_left : 0 < left) where
    module _ (r : Record) (next : ℕ) (reads : read_record t at ≡ Is r next) where
      abbrev behind : List Record
      behind = records_at (left - 1) t next

      rises_here : rising 0 (r ∷ behind) ≡ true
      rises_here = rw (← rest_cons t left at reads some_left) a.whole.rises

      finds_here : find (r ∷ behind) c ≡ find rs c
      finds_here = rw (← rest_cons t left at reads some_left) a.finds

      found_here : le_at t at 4 ≡ c → find rs c ≡ some r
      found_here e = sym finds_here ∙ find_here c r behind ((record_begins t at reads).1 ∙ e)

      none_here : c < le_at t at 4 → find rs c ≡ none
      none_here h = let begins = (record_begins t at reads).1 in sym finds_here ∙ sym (found_other c (r ∷ behind) rises_here (sym (drop_stops c r behind (omega arith))) (λ e. omega arith))

      pub turn_next : (le_at t at 4 ≡ c → ⊥) → RecordsAhead t rs c next (left - 1)
      turn_next n = record {
        whole = record {
          full = full_next t left at a.whole.full some_left reads;
          rises = rising_lower 0 (r.code_point + 1) behind (omega arith) (rising_parts 0 r behind rises_here).1;
        };
        finds = sym (find_behind c r behind (λ e. n (sym (record_begins t at reads).1 ∙ e))) ∙ finds_here;
      }

    pub turn_found : (p : NumProp) → Is (record_of t p) p.next ≡ read_record t at → Inside t p → le_at t at 4 ≡ c → FoundAt t rs c p at
    turn_found p reads inside e = record { found = found_here (record_of t p) p.next (sym reads) e; reads = reads; inside = inside }

    -- a record above c stands here, or none
    pub turn_above : c < le_at t at 4 → find rs c ≡ none
    turn_above h = go (read_record t at) refl
      where
        go : (f : Field Record) → read_record t at ≡ f → find rs c ≡ none
        go (Is r next) e = none_here r next e h
        go Fault e = turn_fault e

-- ---- a turn of `index_record`
module _ (t : List ℕ) (rs : List Record) (at left least : ℕ) (a : RecordsTail t rs at left least) (r : Record) (next : ℕ) (reads : read_record t at ≡ Is r next) (some_left : 0 < left) where
  rises_from : (least ≤ r.code_point) × (rising (r.code_point + 1) (records_at (left - 1) t next) ≡ true)
  rises_from = rising_parts least r (records_at (left - 1) t next) (rw (← rest_cons t left at reads some_left) a.rises)

  pub tail_next : RecordsTail t rs next (left - 1) (r.code_point + 1)
  tail_next = record {
    full = full_next t left at a.full some_left reads;
    rises = rises_from.1;
    finds = λ c h.
        let low = rises_from.0 in
        sym (find_behind c r (records_at (left - 1) t next) (λ e. omega arith))
        ∙ ap (λ (l : List Record). find l c) (sym (rest_cons t left at reads some_left))
        ∙ a.finds c (omega arith);
  }

  pub tail_entry : Entry t rs at left
  tail_entry =
      let begins = record_begins t at reads in
      record { least = least; tail = a; there = begins.0; low = rw (← begins.1) rises_from.0 }

pub tail_all : (t : List ℕ) (at left : ℕ) → Whole t at left → RecordsTail t (records_at left t at) at left 0
tail_all t at left h = record { full = h.full; rises = h.rises; finds = λ c k. refl }

-- ---- the index
pub index_none : (t : List ℕ) (rs : List Record) (os : List ℕ) (all : ℕ) → length os ≡ 512 → IndexGrowing t rs os all (record { n = 0; due = all })
index_none t rs os all l = record {
  made = record { few = omega arith; long = l; inner = λ i h. absurd (omega arith); entries = λ i h. absurd (omega arith) };
  next = omega arith;
}

-- 256 strides are more than all
index_short : (all n : ℕ) → n * stride_of all < all → n < 256
unfolding stride_of
index_short all n h = go (dec_le 256 n)
  where
    go : Dec (256 ≤ n) → n < 256
    go (yes k) = let m : 256 * (1 + all / 256) ≤ n * (1 + all / 256) = mul-le-mul_right (1 + all / 256) k in omega arith
    go (no k) = omega arith

-- an entry is due: there is room for it, and it is the next one
pub due_room : (all : ℕ) (x : Index) → x.due ≡ all - x.n * stride_of all → 0 < x.due → x.n < 256
due_room all x next h = index_short all x.n (omega (arith, next))

pub due_next : (all : ℕ) (x : Index) → x.due ≡ all - x.n * stride_of all → x.due - stride_of all ≡ all - (x.n + 1) * stride_of all
due_next all x next = omega (arith, next, add-mul x.n 1 (stride_of all))

module _ (t : List ℕ) (rs : List Record) (os : List ℕ) (all : ℕ) (x : Index) (g : IndexGrowing t rs os all x) (left : ℕ) (here : left ≡ x.due) (some_left : 0 < left) where
  abbrev n : ℕ
  n = x.n

  due_inner : n * stride_of all < all
  due_inner = omega (arith, g.next)

  room : n < 256
  room = index_short all n due_inner

  pub index_more : (at : ℕ) → Entry t rs at left → IndexGrowing t rs (set os n at) all (record { n = n + 1; due = left - stride_of all })
  index_more at e = record {
    made = record {
      few = omega (arith, room);
      long = length-set os n at ∙ g.made.long;
      inner = λ i k. ⊎_elim (λ q. rw q due_inner) (g.made.inner i) (eq-or-lt_of_le {n = i} {m = n} (omega arith));
      entries = λ i k. ⊎_elim (new i) (λ q. other i q (λ z. omega arith)) (eq-or-lt_of_le {n = i} {m = n} (omega arith));
    };
    next = omega (arith, g.next, add-mul n 1 (stride_of all));
  }
    where
      new : (i : ℕ) → i ≡ n → Entry t rs (get_or (set os n at) i 0) (all - i * stride_of all)
      new i q =
          let l : all - n * stride_of all ≡ left = omega (arith, g.next) in
          rw (q, get_or-set_same os n at 0 (omega (arith, g.made.long, room)), l) e

      other : (i : ℕ) → i < n → (i ≡ n → ⊥) → Entry t rs (get_or (set os n at) i 0) (all - i * stride_of all)
      other i q d = rw (get_or-set_other os n i at 0 d) (g.made.entries i q)

-- ---- the filter
pub growing_marked : (t : List ℕ) (rs : List Record) (os : List ℕ) (all : ℕ) (x : Index) (c : ℕ) → length (with_mark os c) ≡ length os → IndexGrowing t rs os all x → IndexGrowing t rs (with_mark os c) all x
growing_marked t rs os all x c l g =
    let few = g.made.few in
    record {
      made = record {
        few = few;
        long = l ∙ g.made.long;
        inner = g.made.inner;
        entries = λ i h. subst (λ (o : ℕ). Entry t rs o (all - i * stride_of all)) (sym (entry_kept os c i (omega arith))) (g.made.entries i h);
      };
      next = g.next;
    }

pub filtering_all : (t : List ℕ) (os : List ℕ) (at left : ℕ) → Filtering t (records_at left t at) os at left
filtering_all t os at left c u = refl

-- no record is left
pub filtering_done : (t : List ℕ) (rs : List Record) (os : List ℕ) (at left : ℕ) → Filtering t rs os at left → left ≤ 0 → Filtered rs os
filtering_done t rs os at left f h c u = f c u ∙ ap (λ (l : List Record). find l c) (rest_none t left at h) ∙ find_nil c

-- a record more, whose bit is set; the bits that were set stay
pub filtering_next : (t : List ℕ) (rs : List Record) (os : List ℕ) (at left : ℕ) → Filtering t rs os at left → (r : Record) (next : ℕ) → read_record t at ≡ Is r next → 0 < left
    → (ns : List ℕ) → ((d : ℕ) → mark os d ≡ 1 → mark ns d ≡ 1) → mark ns r.code_point ≡ 1 → Filtering t rs ns next (left - 1)
filtering_next t rs os at left f r next reads h ns kept here d u =
    f d (λ m. u (kept d m))
    ∙ ap (λ (l : List Record). find l d) (rest_cons t left at reads h)
    ∙ find_behind d r (records_at (left - 1) t next) (λ e. u (subst (λ (x : ℕ). mark ns x ≡ 1) e here))

-- from an entry that is not above c one may look for c
pub index_ahead : (t : List ℕ) (rs : List Record) (os : List ℕ) (all n : ℕ) → Entered t rs os all n → (i c at : ℕ) → i < n → at ≡ get_or os i 0 → le_at t at 4 ≤ c
    → RecordsAhead t rs c at (all - i * stride_of all)
index_ahead t rs os all n x i c at h a k =
    let e : Entry t rs at (all - i * stride_of all) = rw a (x.entries i h) in
    let low = e.low in
    record { whole = record { full = e.tail.full; rises = rising_lower 0 e.least _ (omega arith) e.tail.rises }; finds = e.tail.finds c (omega arith) }

pub ahead_all : (t : List ℕ) (c at left : ℕ) → Whole t at left → RecordsAhead t (records_at left t at) c at left
ahead_all t c at left h = record { whole = h; finds = refl }

-- what is found from there on is found among all
pub found_ahead : (t : List ℕ) (rs : List Record) (c at left : ℕ) (r : Option (NumProp × ℕ)) → RecordsAhead t rs c at left → FoundIs t (records_at left t at) c r → FoundIs t rs c r
found_ahead t rs c at left (Some (p, o)) a f = record { found = sym a.finds ∙ f.found; reads = f.reads; inside = f.inside }
found_ahead t rs c at left None a f = sym a.finds ∙ f

pub found_told : (t : List ℕ) (rs : List Record) (c : ℕ) {r : Option (NumProp × ℕ)} {p : NumProp} {at : ℕ} → FoundIs t rs c r → r ≡ Some (p, at) → FoundAt t rs c p at
found_told t rs c f e = rw e at f

pub nothing_told : (t : List ℕ) (rs : List Record) (c : ℕ) {r : Option (NumProp × ℕ)} → FoundIs t rs c r → r ≡ None → find rs c ≡ none
nothing_told t rs c f e = rw e at f

-- whether nothing is found
pub none_told : (t : List ℕ) (rs : List Record) (c : ℕ) (r : Option (NumProp × ℕ)) → FoundIs t rs c r → {b : Bool} → is_some r ≡ not b → b ≡ is_none (find rs c)
none_told t rs c (Some (p, at)) f e = rw f.found (not-true _ (sym e))
none_told t rs c None f e = rw f (not-false _ (sym e))
