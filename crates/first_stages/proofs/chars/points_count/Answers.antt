-- `first_stages::chars::points_count` meets its contract: the call has no decimals, or a point's record is looked for. Assumes nothing.
use Rattle.std.proofs.Common.{ap, not}
use Rattle.first_stages.proofs.chars.PointLaws.{counts_not, counts_as}
use Rattle.first_stages.proofs.chars.points_count.Goals as goal

pub returns-then-not-decimals : goal.returns-then-not-decimals
returns-then-not-decimals c = counts_not c.args.decimals _ (ap not c.if-not-decimals.true)

pub returns : goal.returns
returns c = counts_as c.args.decimals (ap not c.if-not-decimals.false) c.is_absent.ensures
