-- `fractions::parts::head_of` meets its contract: the edge stands where its cell says. Assumes nothing.
use Rattle.fractions.proofs.parts.EdgeLaws.{head_in, head_is}
use Rattle.fractions.proofs.parts.head_of.Goals as goal

pub edge_at-requires : goal.edge_at-requires
edge_at-requires c = let h = c.requires.0.1.1 in head_in h c.requires.1 _ c.requires.2 (c.offset_at-at.ensures _ h.holds)

pub returns : goal.returns
returns c = λ n es h. head_is h c.requires.1 _ c.requires.2 (c.offset_at-at.ensures es h.holds) c.edge_at.ensures
