-- `record_check::number_fields::numbers_look` meets its contract: what each look told is what the definition finds there, and where one fails it fails.
use mathlib.Core.Path.{sym}
use Rattle.table.specs.Layout.{bit, number, fraction, optional}
use Rattle.table.specs.Check.{all_of, legal_ratio}
use Rattle.record_check.specs.Look.{from_least}
use Rattle.record_check.proofs.number.LookLaws.{Looked, looked, look_fault}
use Rattle.record_check.proofs.number_fields.NumbersLaws.{value_fault, ratio_fault, base_fault, mult_fault, numbers_are}
use Rattle.record_check.proofs.number_fields.numbers_look.Goals as goal

pub returns-in_err-value : goal.returns-in_err-value
returns-in_err-value c = rw (c.from_residual.ensures) (value_fault _ _ _ (look_fault (all_of (from_least 0)) _ (sym c.in_err-value.ensures)))

pub returns-in_err-ratio : goal.returns-in_err-ratio
returns-in_err-ratio c =
    let value_told : let a = c.args in Looked (all_of (from_least 0)) (optional (bit a.map 1) (number 8) a.s.now a.at) c.in_ok-value.value c.in_ok-value.ratio_at = looked (all_of (from_least 0)) _ (sym c.in_ok-value.ensures) in
    rw (c.from_residual-in_err-ratio.ensures) (ratio_fault _ _ _ value_told (look_fault (all_of legal_ratio) _ (sym c.in_err-ratio.ensures)))

pub returns-in_err-base : goal.returns-in_err-base
returns-in_err-base c =
    let value_told : let a = c.args in Looked (all_of (from_least 0)) (optional (bit a.map 1) (number 8) a.s.now a.at) c.in_ok-value.value c.in_ok-value.ratio_at = looked (all_of (from_least 0)) _ (sym c.in_ok-value.ensures) in
    let ratio_told : let a = c.args in Looked (all_of legal_ratio) (optional (bit a.map 2) fraction a.s.now c.in_ok-value.ratio_at) c.in_ok-ratio.ratio c.in_ok-ratio.base_at = looked (all_of legal_ratio) _ (sym c.in_ok-ratio.ensures) in
    rw (c.from_residual-in_err-base.ensures) (base_fault _ _ _ value_told ratio_told (look_fault (all_of (from_least 1)) _ (sym c.in_err-base.ensures)))

pub returns-in_err-mult : goal.returns-in_err-mult
returns-in_err-mult c =
    let value_told : let a = c.args in Looked (all_of (from_least 0)) (optional (bit a.map 1) (number 8) a.s.now a.at) c.in_ok-value.value c.in_ok-value.ratio_at = looked (all_of (from_least 0)) _ (sym c.in_ok-value.ensures) in
    let ratio_told : let a = c.args in Looked (all_of legal_ratio) (optional (bit a.map 2) fraction a.s.now c.in_ok-value.ratio_at) c.in_ok-ratio.ratio c.in_ok-ratio.base_at = looked (all_of legal_ratio) _ (sym c.in_ok-ratio.ensures) in
    let base_told : let a = c.args in Looked (all_of (from_least 1)) (optional (bit a.map 3) (number 8) a.s.now c.in_ok-ratio.base_at) c.in_ok-base.base c.in_ok-base.mult_at = looked (all_of (from_least 1)) _ (sym c.in_ok-base.ensures) in
    rw (c.from_residual-in_err-mult.ensures) (mult_fault _ _ _ value_told ratio_told base_told (look_fault (all_of (from_least 0)) _ (sym c.in_err-mult.ensures)))

pub returns : goal.returns
returns c =
    let value_told : let a = c.args in Looked (all_of (from_least 0)) (optional (bit a.map 1) (number 8) a.s.now a.at) c.in_ok-value.value c.in_ok-value.ratio_at = looked (all_of (from_least 0)) _ (sym c.in_ok-value.ensures) in
    let ratio_told : let a = c.args in Looked (all_of legal_ratio) (optional (bit a.map 2) fraction a.s.now c.in_ok-value.ratio_at) c.in_ok-ratio.ratio c.in_ok-ratio.base_at = looked (all_of legal_ratio) _ (sym c.in_ok-ratio.ensures) in
    let base_told : let a = c.args in Looked (all_of (from_least 1)) (optional (bit a.map 3) (number 8) a.s.now c.in_ok-ratio.base_at) c.in_ok-base.base c.in_ok-base.mult_at = looked (all_of (from_least 1)) _ (sym c.in_ok-base.ensures) in
    numbers_are _ _ _ value_told ratio_told base_told (looked (all_of (from_least 0)) _ (sym c.in_ok-mult.ensures))
