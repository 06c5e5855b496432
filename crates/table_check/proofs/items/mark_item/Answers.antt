-- `table_check::items::mark_item` meets its contract: the string's layout, then its content.
use mathlib.Core.Path.{◌≡◌, sym, ap, ◌∙◌}
use Rattle.std.specs.Prelude.{None}
use Rattle.std.proofs.lemmas.Result.{err_from_is_err_and}
use Rattle.table.specs.Check.{legal_mark, refusal_at, bad_layout}
use Rattle.table.specs.Answers.{text_field, end_of}
use Rattle.table.proofs.LayoutLaws.{told, within_told}
use Rattle.table.proofs.CheckLaws.{item_fault, item_legal, item_illegal}
use Rattle.table_check.proofs.items.mark_item.Goals as goal

pub returns-in_err-p : goal.returns-in_err-p
returns-in_err-p c =
    let p = err_from_is_err_and c.from_residual.result c.from_residual.ensures.1 in
    let none : c.text_at.result ≡ None = c.in_err-p.ensures.ok_part in
    let layout = rw none at c.in_err-p.ensures.value in
    let at : c.in_err-p.field-0.0 ≡ refusal_at bad_layout c.args.at = cc c.refusal_at.ensures in
    rw (p.1, p.2, at) (ap end_of (item_fault _ legal_mark (told (text_field c.args.s.now) c.text_at.ensures.result_value none)))

pub legal_mark-requires : goal.legal_mark-requires
legal_mark-requires c = within_told _ c.text_at.ensures.within c.in_ok-p.ensures.ok_part

pub returns-then-legal_mark : goal.returns-then-legal_mark
returns-then-legal_mark c = ap end_of (item_legal _ legal_mark (told (text_field c.args.s.now) c.text_at.ensures.result_value c.in_ok-p.ensures.ok_part) (sym c.legal_mark.ensures ∙ c.if-legal_mark.true))

pub returns-else-legal_mark : goal.returns-else-legal_mark
returns-else-legal_mark c = rw c.refusal_at-else-legal_mark.ensures (ap end_of (item_illegal _ legal_mark (told (text_field c.args.s.now) c.text_at.ensures.result_value c.in_ok-p.ensures.ok_part) (sym c.legal_mark.ensures ∙ c.if-legal_mark.false)))
