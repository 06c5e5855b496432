-- Laws of `specs/RecordCheck.antt`: what a look at a record's fields tells of the record. No contract cites this file.
use mathlib.Core.Path.{◌≡◌, sym, ◌∙◌}
use mathlib.Core.Bool.{Bool, true, false}
use mathlib.Core.List.{List}
use Prim.Native.Nat.{ℕ, ◌+◌, ◌≤◌, ◌<◌}
use lib.ListN.{length, get_or}
use Rattle.fields.specs.Fields.{le_at}
use Rattle.table.specs.Table.{Record}
use Rattle.table.specs.Layout.{Is, Fault, read_fields, read_record}
use Rattle.table.specs.Check.{Refused, item, legal_record, bad_layout, bad_content}
use Rattle.table.proofs.LayoutLaws.{record_is}
use Rattle.table.proofs.CheckLaws.{item_fault, item_legal, item_illegal}
use Rattle.table.proofs.record.WalkLaws.{fields_code}
use Rattle.record_check.proofs.number.LookLaws.{Looked}
use Rattle.record_check.specs.RecordCheck.{Passed}

module _ (s : List ℕ) (at least : ℕ) (h : at + 5 ≤ length s) (k : get_or s (at + 4) 0 < 128) {c : ℕ} (e : c ≡ le_at s at 4) where
  reads : {r : Record} {next : ℕ} → read_fields c (get_or s (at + 4) 0) s (at + 5) ≡ Is r next → read_record s at ≡ Is r next
  reads f = sym (record_is s at h e k (sym f))

  module _ {b : Bool} {next : ℕ} (f : Looked (legal_record least) (read_fields c (get_or s (at + 4) 0) s (at + 5)) b next) where
    pub any_passed : b ≡ true → Passed s at least c next
    any_passed t = record { it = f.it; is = sym (item_legal at (legal_record least) (reads f.is) (f.says ∙ t)); point = fields_code c (get_or s (at + 4) 0) s (at + 5) f.is }

    pub any_illegal : b ≡ false → item at (legal_record least) (read_record s at) ≡ Refused bad_content at
    any_illegal t = sym (item_illegal at (legal_record least) (reads f.is) (f.says ∙ t))

  pub any_fault : read_fields c (get_or s (at + 4) 0) s (at + 5) ≡ Fault → item at (legal_record least) (read_record s at) ≡ Refused bad_layout at
  any_fault f = sym (item_fault at (legal_record least) (sym (record_is s at h e k (sym f))))
