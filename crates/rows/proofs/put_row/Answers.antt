-- `rows::put_row` meets its contract: the room for the row is the room for its columns. Assumes nothing.
use Rattle.edge.proofs.CheckLaws.{head_within}
use Rattle.rows.proofs.RowsLaws.{type_in, txt_in, row_room, row_there}
use Rattle.rows.proofs.put_row.Goals as goal

pub edge_at-e-requires : goal.edge_at-e-requires
edge_at-e-requires c = head_within _ _ _ c.requires.0

pub put_columns-requires : goal.put_columns-requires
put_columns-requires c =
    let here = c.requires.0 in
    let listing = c.args.listing.now in
    let from = c.args.from in
    (row_room listing from c.edge_at-e.result c.edge_at-e.ensures here c.args.at c.requires.1, type_in listing from c.edge_at-e.result c.edge_at-e.ensures here, txt_in listing from c.edge_at-e.result c.edge_at-e.ensures here)

pub returns : goal.returns
returns c = row_there c.args.listing.now c.args.from c.edge_at-e.result c.edge_at-e.ensures c.requires.0 c.put_columns.ensures
