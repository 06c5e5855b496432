-- `rilvostam::checks::rilvostam_check_table` meets its contract, by what the table's check answers. Assumes nothing.
use mathlib.Core.Path.{◌∙◌}
use Rattle.rilvostam.proofs.CheckedLaws.{table_is_told, refusal_is_told}
use Rattle.rilvostam.proofs.Tells.{tells}
use Rattle.rilvostam.proofs.checks.rilvostam_check_table.Goals as goal

pub returns-in-Ok : goal.returns-in-Ok
returns-in-Ok c =
    let t = tells (table_is_told _ c.check_table.ensures.table_is c.in-Ok.is) in
    record {
      status = t.0;
      place = t.1;
    }

pub returns-in-Err : goal.returns-in-Err
returns-in-Err c =
    let t = tells (refusal_is_told _ c.check_table.ensures.table_is c.in-Err.is) in
    record {
      status = c.number.ensures ∙ t.0;
      place = t.1;
    }
