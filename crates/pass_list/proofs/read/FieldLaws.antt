-- Laws of a record's fields (`pass_list`, specs/Stored.antt), for this crate's proofs and its callers'. No contract cites this file.
-- In order: the fields of a record; a record read. Assumes nothing.
use mathlib.Core.Path.{◌≡◌, sym, ap, ◌∙◌, subst}
use mathlib.Core.List.{List}
use Prim.Native.Nat.{ℕ, ◌+◌, ◌/◌, ◌%◌, ◌≤◌, ◌<◌}
use native.Mathlib.Nat.{add-zero}
use native.Mathlib.Omega.{arith}
use lib.ListN.{get_or}
use lib.Ieee.{Float}
use Rattle.fields.specs.Fields.{le_at}
use Rattle.fields.specs.Part.{part}
use Rattle.fields.proofs.FieldsLaws.{le_at-of_part, le_at-lt}
use Rattle.whole.specs.Whole.{of_nat}
use Rattle.pass_list.specs.declared.record.PassData.{PassData}
use Rattle.pass_list.specs.declared.record.PassEdge.{PassEdge}
use Rattle.pass_list.specs.StoredEdge.{StoredEdge, num_data, pass_edge, Small, Fits}
use Rattle.pass_list.specs.Layout.{SIZE, end_at, kind_at, map_at, value_at, base_at, mult_at, record_at, script_at, script_len_at, value_bit, base_bit, mult_bit, script_bit, large_power_bit, digit_bit, gap_bit, cjk_bit, decimals_bit, point_bit}
use Rattle.pass_list.specs.Stored.{bit, stored_of, stored_at}
use Rattle.pass_list.specs.declared.kind.Kind.{Kind}
use Rattle.pass_list.specs.Kind.{kind_from}

-- ---- the fields of a record, each at its own offset
abbrev pub fields_at : List ℕ → ℕ → StoredEdge
fields_at s at = record {
  start = le_at s at 2;
  end = le_at s (at + end_at) 2;
  kind = kind_from (le_at s (at + kind_at) 2);
  record_offset = le_at s (at + record_at) 8;
  value = le_at s (at + value_at) 8;
  base = le_at s (at + base_at) 8;
  mult = le_at s (at + mult_at) 8;
  script_offset = le_at s (at + script_at) 8;
  script_len = le_at s (at + script_len_at) 8;
  has_value = bit (le_at s (at + map_at) 2) value_bit;
  has_base = bit (le_at s (at + map_at) 2) base_bit;
  has_mult = bit (le_at s (at + map_at) 2) mult_bit;
  has_script = bit (le_at s (at + map_at) 2) script_bit;
  large_power = bit (le_at s (at + map_at) 2) large_power_bit;
  digit = bit (le_at s (at + map_at) 2) digit_bit;
  gap = bit (le_at s (at + map_at) 2) gap_bit;
  cjk = bit (le_at s (at + map_at) 2) cjk_bit;
  decimals = le_at s (at + map_at) 2 / decimals_bit % 16;
  point = bit (le_at s (at + map_at) 2) point_bit;
}

pub stored_at-fields : (s : List ℕ) (at : ℕ) → stored_at s at ≡ fields_at s at
unfolding stored_at stored_of
stored_at-fields s at =
    let at_field : (i w : ℕ) → i + w ≤ SIZE → le_at (part s at SIZE) i w ≡ le_at s (at + i) w = λ i w h. le_at-of_part s at SIZE i w h in
    rw (at_field 0 2 (omega arith), add-zero at, at_field end_at 2 (omega arith), at_field kind_at 2 (omega arith), at_field map_at 2 (omega arith), at_field value_at 8 (omega arith), at_field base_at 8 (omega arith), at_field mult_at 8 (omega arith), at_field record_at 8 (omega arith), at_field script_at 8 (omega arith), at_field script_len_at 8 (omega arith))

-- its kind, read alone
pub kind_read : (s : List ℕ) (at : ℕ) {n : ℕ} {k : Kind} → n ≡ le_at s (at + kind_at) 2 → k ≡ kind_from n → k ≡ (stored_at s at).kind
kind_read s at en ek = ek ∙ ap kind_from en ∙ sym (ap (λ (x : StoredEdge). x.kind) (stored_at-fields s at))

pub small_at : (s : List ℕ) (at : ℕ) → Small (stored_at s at) → Small (fields_at s at)
small_at s at small = subst Small (stored_at-fields s at) small

-- the numeric data, read field by field
pub num_read : (s : List ℕ) (at : ℕ) {v k : Float} {m n b r a l : ℕ} → m ≡ le_at s (at + map_at) 2 → n ≡ le_at s (at + value_at) 8 → v ≡ of_nat n → r ≡ le_at s (at + mult_at) 8 → k ≡ of_nat r → b ≡ le_at s (at + base_at) 8 → a ≡ le_at s (at + script_at) 8 → l ≡ le_at s (at + script_len_at) 8
    → ◌≡◌ {A = PassData} (record {
      value = v;
      base_multiplier = k;
      base = b;
      has_value = bit m value_bit;
      has_base = bit m base_bit;
      has_mult = bit m mult_bit;
      has_script = bit m script_bit;
      large_power = bit m large_power_bit;
      digit = bit m digit_bit;
      gap = bit m gap_bit;
      cjk = bit m cjk_bit;
      decimals = m / decimals_bit % 16;
      point = bit m point_bit;
      script = record { 0 = a };
      script_len = l;
    }) (num_data (stored_at s at))
num_read s at em en ev er ek eb ea el = rw (stored_at-fields s at, ev, ek, em, en, er, eb, ea, el)

pub edge_read : (s : List ℕ) (at : ℕ) {a e r : ℕ} {k : Kind} {n : PassData} → a ≡ le_at s at 2 → e ≡ le_at s (at + end_at) 2 → k ≡ (stored_at s at).kind → r ≡ le_at s (at + record_at) 8 → n ≡ num_data (stored_at s at)
    → ◌≡◌ {A = PassEdge} (record { start = record { 0 = a }; end = record { 0 = e }; kind = k; record_at = record { 0 = r }; num = n }) (pass_edge (stored_at s at))
edge_read s at ea ee ek er en = rw (en, ek, stored_at-fields s at, ea, ee, er)

-- a record of bytes fits, where 01's bounds hold
pub stored_at-fits : (s : List ℕ) (at : ℕ) → ((j : ℕ) → get_or s j 0 < 256) → Small (stored_at s at) → Fits (stored_at s at)
stored_at-fits s at bytes small =
    subst Fits (sym (stored_at-fields s at))
    (record {
      small = small_at s at small;
      start = le_at-lt s at 2 bytes;
      end = le_at-lt s (at + end_at) 2 bytes;
      record_offset = le_at-lt s (at + record_at) 8 bytes;
      script_offset = le_at-lt s (at + script_at) 8 bytes;
      script_len = le_at-lt s (at + script_len_at) 8 bytes;
      decimals = omega arith;
    })
