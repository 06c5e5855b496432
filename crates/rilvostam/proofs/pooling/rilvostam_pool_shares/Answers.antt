-- `rilvostam::pooling::rilvostam_pool_shares` meets its contract: its answer, told to C. Assumes nothing.
use mathlib.Core.Path.{ap, ◌∙◌}
use Rattle.shares.specs.declared.told.CShares.{CShares}
use Rattle.shares.specs.Told.{shares_told}
use Rattle.rilvostam.proofs.pooling.rilvostam_pool_shares.Goals as goal

pub returns : goal.returns
returns c =
    let e = c.shares_told-sum.ensures ∙ ap shares_told c.pool_shares.ensures in
    record {
      status = ap (λ (t : CShares). t.status) e;
      above = ap (λ (t : CShares). t.numerator) e;
      below = ap (λ (t : CShares). t.denominator) e;
      place = ap (λ (t : CShares). t.at) e;
    }
