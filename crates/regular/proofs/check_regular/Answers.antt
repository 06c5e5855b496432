-- `regular::check_regular` meets its contract, by what the table's check answers. Assumes nothing.
use Rattle.std.proofs.Common.{rules}
use Rattle.std.proofs.lemmas.Result.{err_from_is_err_and}
use Rattle.regular.proofs.CheckLaws.{table_full, answer_table, answer_refused}
use Rattle.regular.proofs.check_regular.Goals as goal

pub first_irregular-requires : goal.first_irregular-requires
first_irregular-requires c = table_full _ c.check_table.ensures.table_is {h = c.in_ok-shape.shape} (search rules)

pub returns-in_err-shape : goal.returns-in_err-shape
returns-in_err-shape c =
    let p = err_from_is_err_and c.from_residual.result c.from_residual.ensures.1 in
    rw (p.1, p.2) (answer_refused _ c.check_table.ensures.table_is (search rules))

pub returns : goal.returns
returns c = answer_table _ c.check_table.ensures.table_is {h = c.in_ok-shape.shape} (search rules) c.first_irregular.ensures
