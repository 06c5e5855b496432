-- `lattice_add::add_written` meets its contract: there was room, so the edge is composed behind the listing, and added. Assumes nothing.
use Rattle.lattice_add.proofs.add_written.Goals as goal

pub add_edge-requires : goal.add_edge-requires
add_edge-requires c = let q = c.requires.2 in ((c.requires.0, q.holds), (c.requires.1, q.placed _ c.in-Some.is))

pub returns-in-Some : goal.returns-in-Some
returns-in-Some c = (c.add_edge.ensures.0, λ es e q. c.add_edge.ensures.1 es e q.holds (q.placed _ c.in-Some.is))

pub returns-in-None : goal.returns-in-None
returns-in-None c = absurd (c.requires.2.room c.in-None.is)
