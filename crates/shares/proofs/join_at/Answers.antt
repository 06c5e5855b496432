-- `shares::join_at` meets its contract: an edge has nothing to add, or its fraction. Assumes nothing.
use Rattle.shares.proofs.ListingLaws.{joined_nothing, share_fits, joined_share}
use Rattle.shares.proofs.join_at.Goals as goal

pub share_at-requires : goal.share_at-requires
share_at-requires c = c.requires.1.whole

pub pool-requires : goal.pool-requires
pool-requires c =
    let sound = share_fits c.args.sum _ _ c.share_at.ensures _ _ c.in-Some.is c.requires.1 in
    (c.requires.0, sound.0, sound.1, sound.2)

pub returns-in-None : goal.returns-in-None
returns-in-None c = joined_nothing _ _ _ c.share_at.ensures c.in-None.is

pub returns-in-Some : goal.returns-in-Some
returns-in-Some c = joined_share _ _ _ c.share_at.ensures _ _ c.in-Some.is c.pool.ensures
