-- What a walk over the records needs of each. Definitions only.
--     end_if b s at       the offset behind the string at an offset of s where b holds, else that offset
--     part_if b s at      the bytes of that string, where b holds
--     Stands s at next   a record is laid out at the offset at of s, and ends at next
-- Assumes nothing.
use Rattle.std.specs.Prelude.{◌≡◌, Bool, cond, List, ℕ, ◌+◌, get_or}
use Rattle.table.specs.Table.{Record}
use Rattle.table.specs.Layout.{Is, read_record}
use Rattle.fields.specs.declared.Part.{Part}

abbrev pub end_if : Bool → List ℕ → ℕ → ℕ
end_if b s at = cond b (at + 1 + get_or s at 0) at

abbrev pub part_if : Bool → List ℕ → ℕ → Part
part_if b s at = cond b (record { at = record { 0 = at + 1 }; len = get_or s at 0 }) (record { at = record { 0 = 0 }; len = 0 })

pub record Stands (s : List ℕ) (at next : ℕ) : Type 0 where
  pub prop : Record
  pub reads : read_record s at ≡ Is prop next
