-- `table_check::items::record_item` meets its contract: a record that is told by few tests is legal, and of any other the reading in full decides.
use mathlib.Core.Path.{subst}
use Rattle.record_check.specs.Plain.{PlainIs}
use Rattle.table_check.proofs.items.StepLaws.{plain_passed}
use Rattle.table_check.proofs.items.record_item.Goals as goal

pub returns-in-Some : goal.returns-in-Some
returns-in-Some c = plain_passed _ _ _ (subst (PlainIs _ _ _) c.in-Some.is c.plain_at.ensures)

pub returns-in-None : goal.returns-in-None
returns-in-None c = c.check_record.ensures
