-- `shares::pool_shares` meets its contract, by what the checks answer. Assumes nothing.
use mathlib.Core.Path.{sym}
use Rattle.shares.proofs.ListingLaws.{readable_spans, shares_read}
use Rattle.shares.proofs.pool_shares.Goals as goal

pub pool_edges-requires : goal.pool_edges-requires
pool_edges-requires c = readable_spans _ _ (sym c.in_ok-count.ensures)

pub returns : goal.returns
returns c = shares_read _ _ (sym c.in_ok-count.ensures) c.pool_edges.ensures
