use Rattle.shares.proofs.ListingLaws.{pooling_first, spanned, at_within, pooling_next, pooling_ended}
use Rattle.shares.proofs.pool_edges.Goals as goal

pub loop-i-init : goal.loop-i-init
loop-i-init c = pooling_first _ _ c.requires

pub join_at-requires : goal.join_at-requires
join_at-requires c = let w = c.loop-i.invariant in (w.reduced, spanned w c.loop-i-test.true)

pub next_at-at-requires : goal.next_at-at-requires
next_at-at-requires c = at_within _ _ (spanned c.loop-i.invariant c.loop-i-test.true).whole

pub loop-i-preserved : goal.loop-i-preserved
loop-i-preserved c = pooling_next c.loop-i.invariant c.loop-i-test.true c.join_at.ensures _ c.in_ok-sum.ensures.ok_part c.next_at-at.ensures

pub returns : goal.returns
returns c = pooling_ended c.loop-i.invariant c.loop-i-test.false
