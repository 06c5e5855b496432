-- What the answers of this crate's functions say of the table's bytes s, case by case. Definitions only.
--     record_of s p      the record that a NumProp stands for
--     table_of s h       the table that a shape stands for
--     text_field, opt_text   an answer as a field (`specs/Layout.antt`)
--     end_of             checked items as an answer that keeps no values; table_answer: an answer as a checked table
--     Within, Inside    a part, the parts of a NumProp lie within the bytes
use Rattle.std.specs.Prelude.{ℕ, ◌+◌, ◌≤◌, Bool, true, false, cond, List, [], ◌∷◌, length, Some, None, Result, Ok, Err}
use Rattle.std.proofs.Math.Option.{Option, none, some}
use Rattle.fields.specs.Fields.{le_at}
use Rattle.fields.specs.Part.{part_of}
use Rattle.table.specs.Table.{Text, Record, Table}
use Rattle.table.specs.Layout as Layout
use Rattle.table.specs.Layout.{Field, Is, bit, texts_at, records_at, list_at}
use Rattle.table.specs.Check.{Checked, Fine}
use Rattle.table.specs.Check as Check
use Rattle.fields.specs.declared.Part.{Part}
use Rattle.table.specs.declared.layout.Numbers.{Numbers}
use Rattle.table.specs.declared.layout.NumProp.{NumProp}
use Rattle.table.specs.declared.shape.Shape.{Shape}
use Rattle.std.specs.Prelude as std
use Rattle.table.specs.declared.shape.TableRefusal.{TableRefusal}

abbrev pub optionally : {A : Type 0} → Bool → A → Option A
optionally b a = cond b (some a) none

-- ---- fields
abbrev pub text_field : List ℕ → std.Option (Part × ℕ) → Field Text
text_field s (Some (p, next)) = Is (part_of s p) next
text_field s None = Layout.Fault

abbrev pub opt_text : Bool → List ℕ → std.Option (Part × ℕ) → Field (Option Text)
opt_text there s (Some (p, next)) = Is (optionally there (part_of s p)) next
opt_text there s None = Layout.Fault

-- a number that is there, or 0
abbrev pub number_if : Bool → List ℕ → ℕ → ℕ
number_if there s at = cond there (le_at s at 8) 0

abbrev pub numbers_of : ℕ → Numbers → Layout.Numbers
numbers_of m n = record {
  value = optionally (bit m 1) n.value;
  fraction = optionally (bit m 2) (n.numerator, n.denominator);
  base = optionally (bit m 3) n.base;
  mult = optionally (bit m 4) n.mult;
}

unfoldable pub record_of : List ℕ → NumProp → Record
record_of s p =
    Layout.record_with p.code_point p.map (part_of s p.num_type)
    (optionally (bit p.map 0) (part_of s p.rom))
    (numbers_of p.map p.numbers)
    (optionally (bit p.map 5) (part_of s p.script))

-- ---- what lies within the bytes
abbrev pub Within : List ℕ → Part → Type 0
Within s p = p.at.0 + p.len ≤ length s

pub record Inside (s : List ℕ) (p : NumProp) : Type 0 where
  pub type_within : Within s p.num_type
  pub rom_within : Within s p.rom
  pub script_within : Within s p.script

abbrev pub TextWithin : List ℕ → std.Option (Part × ℕ) → Type 0
TextWithin s (Some (p, next)) = Within s p
TextWithin s None = Unit {0}

-- ---- items
abbrev pub end_of : {A : Type 0} → Checked A → Result ℕ TableRefusal
end_of (Fine a next) = Ok next
end_of (Check.Refused cause at) = Err (Check.refusal_at cause at)

unfoldable pub table_of : List ℕ → Shape → Table
table_of s h = record {
  percentage_markers = list_at s h.percentages;
  fraction_connectors = list_at s h.connectors;
  plus_signs = list_at s h.plus;
  minus_signs = list_at s h.minus;
  records = records_at h.count s h.records;
}

abbrev pub table_answer : List ℕ → Result Shape TableRefusal → Checked Table
table_answer s (Ok h) = Fine (table_of s h) (length s)
table_answer s (Err r) = Check.Refused r.cause r.at.0
