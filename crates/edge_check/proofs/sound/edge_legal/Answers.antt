-- `edge_check::sound::edge_legal` meets its contract: an edge that is cut off is not good, and of one that is whole the map and the content decide. Assumes nothing.
use Rattle.edge.proofs.CheckLaws.{next_within, map_within, edge_cut, edge_whole}
use Rattle.edge_check.proofs.sound.edge_legal.Goals as goal

pub returns-then-s-next : goal.returns-then-s-next
returns-then-s-next c = edge_cut _ _ _ _ c.requires c.if-s-next.true

pub u16_at-requires : goal.u16_at-requires
u16_at-requires c = map_within _ _ _ (next_within _ _ _ c.requires c.if-s-next.false)

pub returns : goal.returns
returns c = edge_whole _ _ _ _ c.requires c.if-s-next.false c.u16_at.ensures c.allowed.ensures c.edge_sound.ensures
