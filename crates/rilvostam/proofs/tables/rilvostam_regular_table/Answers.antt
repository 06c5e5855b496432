-- `rilvostam::tables::rilvostam_regular_table` meets its contract: its answer, told to C. Assumes nothing.
use mathlib.Core.Path.{ap, ◌∙◌}
use Rattle.rilvostam.specs.Tables.{regular_told}
use Rattle.rilvostam.proofs.Tells.{tells}
use Rattle.rilvostam.proofs.tables.rilvostam_regular_table.Goals as goal

pub returns : goal.returns
returns c =
    let t = tells (c.regular_told-checked.ensures ∙ ap regular_told c.check_regular.ensures) in
    record {
      status = t.0;
      place = t.1;
    }
