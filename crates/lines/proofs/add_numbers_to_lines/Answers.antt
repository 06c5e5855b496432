-- `lines::add_numbers_to_lines` meets its contract, by what the table's check finds and the page that is filled. Assumes nothing.
use mathlib.Core.Path.{◌≡◌}
use Rattle.std.proofs.lemmas.Result.{err_from_is_err_and}
use Rattle.table.specs.declared.shape.TableRefusal.{TableRefusal}
use Rattle.call.specs.Checks.{of_table}
use Rattle.call.proofs.MapLaws.{mapped_err, mapped_ok}
use Rattle.lines.proofs.FillLaws.{table_ready, answer_short, answer_refused, answer_page}
use Rattle.lines.proofs.add_numbers_to_lines.Goals as goal

pub returns-then-work-lt-WORK_SIZE : goal.returns-then-work-lt-WORK_SIZE
returns-then-work-lt-WORK_SIZE c = let a = answer_short _ _ _ _ c.if-work-lt-WORK_SIZE.true in record { answer = a.0; output = a.1 }

pub fill-requires : goal.fill-requires
fill-requires c = (c.if-work-lt-WORK_SIZE.false, table_ready _ _ _ c.check_table.ensures.table_is.table (mapped_ok _ _ _ c.in_ok-shape.ensures.cases) c.check_table.ensures.indexed)

pub returns-in_err-shape : goal.returns-in_err-shape
returns-in_err-shape c =
    let p = err_from_is_err_and c.from_residual.result c.from_residual.ensures.1 in
    let (e, is, made) = mapped_err c.check_table.result _ (λ (e : TableRefusal). c.in_err-shape.field-0.0 ≡ of_table e) c.in_err-shape.ensures.cases in
    let a = answer_refused _ _ _ _ c.if-work-lt-WORK_SIZE.false c.check_table.ensures.table_is.table is made in
    rw (p.1, p.2) (record { answer = a.0; output = a.1 })

pub returns : goal.returns
returns c =
    let a = answer_page _ _ _ _ c.if-work-lt-WORK_SIZE.false c.check_table.ensures.table_is.table (mapped_ok _ _ _ c.in_ok-shape.ensures.cases) c.fill.ensures in
    record { answer = a.0; output = a.1 }
