-- `record_check::record::fields_look` meets its contract: what each call read is what the definition reads there, and where one fails it fails.
use mathlib.Core.Path.{sym, ap, ◌∙◌}
use Rattle.table.specs.Layout.{Is, map_field, read_numbers}
use Rattle.table.specs.Check.{legal_numbers, legal_record}
use Rattle.table.proofs.LayoutLaws.{type_fault, rom_fault, numbers_fault, script_fault, fields_are}
use Rattle.record_check.proofs.number.LookLaws.{Looked, looked, look_fault}
use Rattle.record_check.proofs.number_fields.NumbersLaws.{value_told}
use Rattle.record_check.proofs.record.RecordLaws.{legal_is}
use Rattle.record_check.proofs.record.fields_look.Goals as goal

pub returns-in_err-kind : goal.returns-in_err-kind
returns-in_err-kind c = rw (c.from_residual.ensures) (ap (map_field (legal_record _)) (type_fault _ _ _ _ (sym c.in_err-kind.ensures.result_value)))

pub returns-in_err-rom : goal.returns-in_err-rom
returns-in_err-rom c = rw (c.from_residual-in_err-rom.ensures) (ap (map_field (legal_record _)) (rom_fault _ _ _ _ (sym c.in_ok-kind.ensures.result_value) (sym c.in_err-rom.ensures.result_value)))

pub returns-in_err-numbers : goal.returns-in_err-numbers
returns-in_err-numbers c =
    rw (c.from_residual-in_err-numbers.ensures)
    (ap (map_field (legal_record _)) (numbers_fault _ _ _ _ (sym c.in_ok-kind.ensures.result_value) (sym c.in_ok-rom.ensures.result_value) (look_fault legal_numbers _ (sym c.in_err-numbers.ensures))))

pub returns-in_err-script : goal.returns-in_err-script
returns-in_err-script c =
    let numbers_read : let a = c.args in Looked legal_numbers (read_numbers a.map a.s.now c.in_ok-rom.value_at) c.in_ok-numbers.numbers c.in_ok-numbers.script_at = looked legal_numbers _ (sym c.in_ok-numbers.ensures) in
    rw (c.from_residual-in_err-script.ensures)
    (ap (map_field (legal_record _)) (script_fault _ _ _ _ (sym c.in_ok-kind.ensures.result_value) (sym c.in_ok-rom.ensures.result_value) numbers_read.is (sym c.in_err-script.ensures.result_value)))

pub legal_rest-requires-clause-at_in_bounds : goal.legal_rest-requires-clause-at_in_bounds
legal_rest-requires-clause-at_in_bounds c =
    let numbers_read : let a = c.args in Looked legal_numbers (read_numbers a.map a.s.now c.in_ok-rom.value_at) c.in_ok-numbers.numbers c.in_ok-numbers.script_at = looked legal_numbers _ (sym c.in_ok-numbers.ensures) in
    (value_told _ _ _ numbers_read.is).1

pub returns : goal.returns
returns c =
    let numbers_read : let a = c.args in Looked legal_numbers (read_numbers a.map a.s.now c.in_ok-rom.value_at) c.in_ok-numbers.numbers c.in_ok-numbers.script_at = looked legal_numbers _ (sym c.in_ok-numbers.ensures) in
    let a = c.args in
    rw (c.legal_rest.ensures, c.legal_code_point.ensures)
    (ap (λ b. Is b c.in_ok-script.next) (legal_is _ a.code a.map _ _ _ numbers_read.it _ (value_told _ _ _ numbers_read.is).0 numbers_read.says)
    ∙ ap (map_field (legal_record _)) (fields_are _ _ _ _ (sym c.in_ok-kind.ensures.result_value) (sym c.in_ok-rom.ensures.result_value) numbers_read.is (sym c.in_ok-script.ensures.result_value)))
