-- `table_check::check_table` meets its contract: what each call answered is what the definition reads there, and the first refusal decides.
use Rattle.std.proofs.lemmas.Result.{err_from_is_err_and}
use Rattle.table.specs.Answers.{table_of}
use Rattle.table.proofs.CheckLaws.{list_ends, list_refused, records_end, records_refused, table_short, first_refused, second_refused, third_refused, fourth_refused, record_refused, table_left, table_is}
use Rattle.table_check.specs.Indexed.{ItemsIndexed, TableIndexed}
use Rattle.table_check.specs.Shape.{ShapeIs}
use Rattle.table_check.proofs.ShapeLaws.{shape_is}
use Rattle.table_check.proofs.check_table.Goals as goal

pub returns-then-s-lt2 : goal.returns-then-s-lt2
unfolding TableIndexed ShapeIs
returns-then-s-lt2 c =
    rw c.refusal_at.ensures
    (record {
      table_is = record { table = table_short _ c.if-s-lt2.true; shape = tt };
      indexed = tt;
    })

pub returns-in_err-connectors : goal.returns-in_err-connectors
unfolding TableIndexed ShapeIs
returns-in_err-connectors c =
    let p = err_from_is_err_and c.from_residual.result c.from_residual.ensures.1 in
    rw (p.1, p.2)
    (record {
      table_is = record { table = first_refused _ c.if-s-lt2.false c.u16_at-count.ensures (list_refused _ _ c.in_err-connectors.ensures); shape = tt };
      indexed = tt;
    })

pub returns-in_err-plus : goal.returns-in_err-plus
unfolding TableIndexed ShapeIs
returns-in_err-plus c =
    let p = err_from_is_err_and c.from_residual-in_err-plus.result c.from_residual-in_err-plus.ensures.1 in
    rw (p.1, p.2)
    (record {
      table_is = record { table = second_refused _ c.if-s-lt2.false c.u16_at-count.ensures (list_ends _ _ c.in_ok-connectors.ensures) (list_refused _ _ c.in_err-plus.ensures); shape = tt };
      indexed = tt;
    })

pub returns-in_err-minus : goal.returns-in_err-minus
unfolding TableIndexed ShapeIs
returns-in_err-minus c =
    let p = err_from_is_err_and c.from_residual-in_err-minus.result c.from_residual-in_err-minus.ensures.1 in
    rw (p.1, p.2)
    (record {
      table_is = record { table = third_refused _ c.if-s-lt2.false c.u16_at-count.ensures (list_ends _ _ c.in_ok-connectors.ensures) (list_ends _ _ c.in_ok-plus.ensures) (list_refused _ _ c.in_err-minus.ensures); shape = tt };
      indexed = tt;
    })

pub returns-in_err-records : goal.returns-in_err-records
unfolding TableIndexed ShapeIs
returns-in_err-records c =
    let p = err_from_is_err_and c.from_residual-in_err-records.result c.from_residual-in_err-records.ensures.1 in
    rw (p.1, p.2)
    (record {
      table_is = record { table = fourth_refused _ c.if-s-lt2.false c.u16_at-count.ensures (list_ends _ _ c.in_ok-connectors.ensures) (list_ends _ _ c.in_ok-plus.ensures) (list_ends _ _ c.in_ok-minus.ensures) (list_refused _ _ c.in_err-records.ensures); shape = tt };
      indexed = tt;
    })

pub returns-in_err-end : goal.returns-in_err-end
unfolding TableIndexed ShapeIs
returns-in_err-end c =
    let p = err_from_is_err_and c.from_residual-in_err-end.result c.from_residual-in_err-end.ensures.1 in
    rw (p.1, p.2)
    (record {
      table_is = record { table = record_refused _ c.if-s-lt2.false c.u16_at-count.ensures (list_ends _ _ c.in_ok-connectors.ensures) (list_ends _ _ c.in_ok-plus.ensures) (list_ends _ _ c.in_ok-minus.ensures) (list_ends _ _ c.in_ok-records.ensures) (records_refused _ _ _ c.in_err-end.ensures.value); shape = tt };
      indexed = tt;
    })

pub returns-then-end-s : goal.returns-then-end-s
unfolding TableIndexed ShapeIs
returns-then-end-s c =
    rw c.refusal_at-then-end-s.ensures
    (record {
      table_is = record { table = table_left _ c.if-s-lt2.false c.u16_at-count.ensures (list_ends _ _ c.in_ok-connectors.ensures) (list_ends _ _ c.in_ok-plus.ensures) (list_ends _ _ c.in_ok-minus.ensures) (list_ends _ _ c.in_ok-records.ensures) (records_end _ _ _ c.in_ok-end.ensures.value) c.if-end-s.true; shape = tt };
      indexed = tt;
    })

pub returns : goal.returns
unfolding table_of ItemsIndexed TableIndexed ShapeIs
returns c =
    record {
      table_is = record { table = table_is _ c.if-s-lt2.false c.u16_at-count.ensures (list_ends _ _ c.in_ok-connectors.ensures) (list_ends _ _ c.in_ok-plus.ensures) (list_ends _ _ c.in_ok-minus.ensures) (list_ends _ _ c.in_ok-records.ensures) (records_end _ _ _ c.in_ok-end.ensures.value) c.if-end-s.false; shape = shape_is _ c.u16_at-count.ensures (list_ends _ _ c.in_ok-connectors.ensures) (list_ends _ _ c.in_ok-plus.ensures) (list_ends _ _ c.in_ok-minus.ensures) (list_ends _ _ c.in_ok-records.ensures) };
      indexed = rw c.u16_at-count.ensures at c.in_ok-end.ensures.indexed;
    }
