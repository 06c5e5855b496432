-- The record of a character among the records rs of the table t, and an index over them. Definitions only.
--     FoundAt t rs c p at              the code point c has a record in rs, which is p and stands at the offset at
--     FoundIs t rs c r                 the answer r says which record c has, or that it has none
--     Whole t at left                  from the offset at on there are left records, and they rise
--     RecordsTail t rs at left least   there are left records from the offset at on; they rise from least on, and have the records of rs for code points from least on
--     RecordsAhead t rs c at left      a Whole begins at the offset at, and c has there the record that it has in rs
--     Entry t rs at left               an entry of the index: a record stands at the offset at, and a RecordsTail begins there, for code points from this record's on
--     stride_of all                     from one entry of the index to the next there are so many of all records
--     Entered t rs os all n            the index os over rs, which are all records, begins with n entries, offsets of records; the i-th is record number i * stride_of all
--     Indexed t rs os all n            the same, and behind the entries stands the filter over rs
--     IndexGrowing t rs os all x       the same of an index x that is being made, whose next entry is due
--     IndexIf t at all os n            if all records from the offset at on are laid out and rise, then os is the index over them, with n entries
--     Filtering t rs os at left        while the filter is made: a code point whose bit is not set has in rs the record that it has among the left records from the offset at on
-- Assumes nothing.
use Rattle.std.specs.Prelude.{◌≡◌, true, List, ℕ, ◌+◌, ◌-◌, ◌*◌, ◌/◌, ◌≤◌, ◌<◌, length, get_or, Option, Some, None}
use Rattle.std.proofs.Math.Option.{none, some}
use Rattle.fields.specs.Fields.{le_at}
use Rattle.table.specs.Table.{Record, find}
use Rattle.table.specs.Layout.{Is, read_record, records_at}
use Rattle.table.specs.Check.{rising}
use Rattle.table.specs.Filter.{most_entries, index_size, Unmarked, Filtered}
use Rattle.table.specs.Answers.{record_of, Inside}
use Rattle.table.specs.declared.layout.NumProp.{NumProp}
use Rattle.table.specs.declared.index.Index.{Index}

pub record FoundAt (t : List ℕ) (rs : List Record) (c : ℕ) (p : NumProp) (at : ℕ) : Type 0 where
  pub found : find rs c ≡ some (record_of t p)
  pub reads : Is (record_of t p) p.next ≡ read_record t at
  pub inside : Inside t p

abbrev pub FoundIs : List ℕ → List Record → ℕ → Option (NumProp × ℕ) → Type 0
FoundIs t rs c (Some (p, at)) = FoundAt t rs c p at
FoundIs t rs c None = find rs c ≡ none

pub record Whole (t : List ℕ) (at left : ℕ) : Type 0 where
  pub full : length (records_at left t at) ≡ left
  pub rises : rising 0 (records_at left t at) ≡ true

pub record RecordsTail (t : List ℕ) (rs : List Record) (at left least : ℕ) : Type 0 where
  pub full : length (records_at left t at) ≡ left
  pub rises : rising least (records_at left t at) ≡ true
  pub finds : (c : ℕ) → least ≤ c → find (records_at left t at) c ≡ find rs c

pub record RecordsAhead (t : List ℕ) (rs : List Record) (c at left : ℕ) : Type 0 where
  pub whole : Whole t at left
  pub finds : find (records_at left t at) c ≡ find rs c

pub record Entry (t : List ℕ) (rs : List Record) (at left : ℕ) : Type 0 where
  pub least : ℕ
  pub tail : RecordsTail t rs at left least
  pub there : at + 4 ≤ length t
  pub low : least ≤ le_at t at 4

unfoldable pub stride_of : ℕ → ℕ
stride_of all = 1 + all / most_entries

pub record Entered (t : List ℕ) (rs : List Record) (os : List ℕ) (all n : ℕ) : Type 0 where
  pub few : n ≤ most_entries
  pub long : length os ≡ index_size
  pub inner : (i : ℕ) → i < n → i * stride_of all < all
  pub entries : (i : ℕ) → i < n → Entry t rs (get_or os i 0) (all - i * stride_of all)

abbrev pub Indexed : List ℕ → List Record → List ℕ → ℕ → ℕ → Type 0
Indexed t rs os all n = Entered t rs os all n × Filtered rs os

pub record IndexGrowing (t : List ℕ) (rs : List Record) (os : List ℕ) (all : ℕ) (x : Index) : Type 0 where
  pub made : Entered t rs os all x.n
  pub next : x.due ≡ all - x.n * stride_of all

abbrev pub IndexIf : List ℕ → ℕ → ℕ → List ℕ → ℕ → Type 0
IndexIf t at all os n = Whole t at all → Indexed t (records_at all t at) os all n

abbrev pub Filtering : List ℕ → List Record → List ℕ → ℕ → ℕ → Type 0
Filtering t rs os at left = (c : ℕ) → Unmarked os c → find rs c ≡ find (records_at left t at) c
