-- `record_check::texts::legal_mark` meets its contract.
use mathlib.Core.Path.{◌∙◌}
use Rattle.table.proofs.ContentLaws.{mark_empty, mark_is}
use Rattle.record_check.proofs.texts.legal_mark.Goals as goal

pub returns-then-p-eq0 : goal.returns-then-p-eq0
returns-then-p-eq0 c = mark_empty _ _ _ c.requires c.if-p-eq0.true

pub returns : goal.returns
returns c = c.well_formed-2.ensures ∙ mark_is _ _ _ c.requires c.if-p-eq0.false
