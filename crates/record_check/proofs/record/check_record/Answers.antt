-- `record_check::record::check_record` meets its contract: the code point and the map are there and bit 7 isn't, and the fields decide; or the record is at fault.
use mathlib.Core.Path.{◌≡◌, sym}
use native.Mathlib.Omega.{arith}
use lib.ListN.{get_or}
use Rattle.std.specs.Prelude.{None}
use Rattle.std.proofs.lemmas.Result.{err_from_is_err_and}
use Prim.Native.Nat.{◌+◌}
use Rattle.table.specs.Layout.{read_fields}
use Rattle.table.specs.Check.{legal_record, bad_layout}
use Rattle.table.proofs.LayoutLaws.{told, record_cut, record_bit_7}
use Rattle.table.proofs.CheckLaws.{item_fault}
use Rattle.record_check.specs.Look.{look_field}
use Rattle.record_check.proofs.number.LookLaws.{Looked, looked, look_fault}
use Rattle.record_check.proofs.record.StepLaws.{any_passed, any_illegal, any_fault}
use Rattle.record_check.proofs.record.check_record.Goals as goal

pub returns-then-s-lt5 : goal.returns-then-s-lt5
returns-then-s-lt5 c = sym (item_fault _ (legal_record _) (record_cut _ _ (omega arith)))

pub returns-then-s-at : goal.returns-then-s-at
returns-then-s-at c = sym (item_fault _ (legal_record _) (record_cut _ _ (omega arith)))

pub returns-then-map-ge128 : goal.returns-then-map-ge128
returns-then-map-ge128 c = sym (item_fault _ (legal_record _) (record_bit_7 _ _ (omega arith) c.if-map-ge128.true))

pub returns-in_err-legal : goal.returns-in_err-legal
returns-in_err-legal c =
    let p = err_from_is_err_and c.from_residual.result c.from_residual.ensures.1 in
    let none : c.fields_look.result ≡ None = c.in_err-legal.ensures.ok_part in
    let layout = rw none at c.in_err-legal.ensures.value in
    let cause : c.in_err-legal.field-0.0 ≡ bad_layout = cc in
    rw (p.1, p.2, cause) (any_fault _ _ _ (omega arith) c.if-map-ge128.false c.u32_at-code.ensures (look_fault (legal_record _) _ (told look_field c.fields_look.ensures none)))

pub returns-then-legal : goal.returns-then-legal
returns-then-legal c =
    let fields_told : let a = c.args in Looked (legal_record a.least) (read_fields c.u32_at-code.result (get_or a.s.now (a.at + 4) 0) a.s.now (a.at + 5)) c.in_ok-legal.legal c.in_ok-legal.next = looked (legal_record _) _ (told look_field c.fields_look.ensures c.in_ok-legal.ensures.ok_part) in
    any_passed _ _ _ (omega arith) c.if-map-ge128.false c.u32_at-code.ensures fields_told c.if-legal.true

pub returns-else-legal : goal.returns-else-legal
returns-else-legal c =
    let fields_told : let a = c.args in Looked (legal_record a.least) (read_fields c.u32_at-code.result (get_or a.s.now (a.at + 4) 0) a.s.now (a.at + 5)) c.in_ok-legal.legal c.in_ok-legal.next = looked (legal_record _) _ (told look_field c.fields_look.ensures c.in_ok-legal.ensures.ok_part) in
    any_illegal _ _ _ (omega arith) c.if-map-ge128.false c.u32_at-code.ensures fields_told c.if-legal.false
