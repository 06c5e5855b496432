-- `walker::whole_edge::whole_edge_at` meets its contract, by what the walk says of the offset. Assumes nothing.
use Rattle.walker.proofs.whole_edge.EdgeLaws.{fields_end_within, edge_stands}
use Rattle.walker.proofs.whole_edge.whole_edge_at.Goals as goal

pub fields_behind-fields-requires : goal.fields_behind-fields-requires
fields_behind-fields-requires c = fields_end_within _ _ c.here_at.ensures c.in_ok-head.was

pub returns : goal.returns
returns c = edge_stands _ _ c.here_at.ensures c.in_ok-head.was c.fields_behind-fields.ensures c.behind.ensures
