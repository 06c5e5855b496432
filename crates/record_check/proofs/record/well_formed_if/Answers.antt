-- `record_check::record::well_formed_if` meets its contract, by whether the string is there.
use Rattle.table.specs.Check.{all_of}
use Rattle.record_check.proofs.record.well_formed_if.Goals as goal

pub returns-then-there : goal.returns-then-there
unfolding all_of
returns-then-there c = rw c.if-there.true c.well_formed-then-there.ensures

pub returns-else-there : goal.returns-else-there
unfolding all_of
returns-else-there c = rw c.if-there.false
