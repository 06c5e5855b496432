-- `markers::texts::texts_of` meets its contract: a list's texts stand behind its count. Assumes nothing.
use mathlib.Core.Path.{sym}
use Rattle.table.proofs.LayoutLaws.{list_texts}
use Rattle.markers.proofs.TextsLaws.{list_missing}
use Rattle.markers.proofs.texts.texts_of.Goals as goal

pub returns-then-table-list : goal.returns-then-table-list
returns-then-table-list c = list_missing _ _ _ c.if-table-list.true

pub returns : goal.returns
returns c = sym (list_texts _ _ c.if-table-list.false)
