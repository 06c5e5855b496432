-- `markers::any::any_marker` meets its contract, by both lists. Assumes nothing.
use mathlib.Core.Path.{◌∙◌}
use Rattle.table.specs.Layout.{list_at}
use Rattle.table.specs.Answers.{table_of}
use Rattle.markers.specs.Marks.{Formed}
use Rattle.markers.proofs.MarkLaws.{Marks, table_marks, all_formed}
use Rattle.markers.proofs.AnyLaws.{marked_first, marked_second}
use Rattle.markers.proofs.any.any_marker.Goals as goal

pub any_of-requires : goal.any_of-requires
unfolding table_of
any_of-requires c =
    let marks : Marks (table_of c.args.table.now c.args.shape) = table_marks c.args.table.now c.requires.0.checked in
    let percentages_formed : Formed (list_at c.args.table.now c.args.shape.percentages) = all_formed _ (marks).percentages in
    (c.requires.1, c.requires.0.count, c.requires.0.few, percentages_formed)

pub any_of-requires-else-any_of : goal.any_of-requires-else-any_of
unfolding table_of
any_of-requires-else-any_of c =
    let marks : Marks (table_of c.args.table.now c.args.shape) = table_marks c.args.table.now c.requires.0.checked in
    let connectors_formed : Formed (list_at c.args.table.now c.args.shape.connectors) = all_formed _ (marks).connectors in
    (c.requires.1, c.requires.0.count, c.requires.0.few, connectors_formed)

pub returns-then-any_of : goal.returns-then-any_of
returns-then-any_of c = c.if-any_of.true ∙ marked_first _ c.args.table.now c.args.shape c.requires.0.count c.any_of.ensures c.if-any_of.true

pub returns-else-any_of : goal.returns-else-any_of
returns-else-any_of c = marked_second _ c.args.table.now c.args.shape c.requires.0.count c.any_of.ensures c.if-any_of.false c.any_of-else-any_of.ensures
