-- What C is told of a listing's shares (02, S-6). Definitions only.
--     shares_told a    02's number of an answer, 0 for a sum; the sum, 0 and 0 where there is none; the offset or index that a refusal returns, or 0
--     pool_told line s    that of the listing s over a line
-- Assumes nothing.
use Rattle.std.specs.Prelude.{ℕ, List, Result, Ok, Err}
use Rattle.paths.specs.Reading.{number, place}
use Rattle.shares.specs.declared.told.CShares.{CShares}
use Rattle.shares.specs.Listing.{pool_shares}
use Rattle.passes.specs.declared.ratio.Ratio.{Ratio}
use Rattle.shares.specs.declared.SharesRefusal.{SharesRefusal}

-- "It refuses with 11 .., naming that edge's index in the listing"
abbrev pub shares_told : Result Ratio SharesRefusal → CShares
shares_told (Ok r) = record { status = 0; numerator = r.numerator; denominator = r.denominator; at = 0 }
shares_told (Err (SharesRefusal.Above i)) = record { status = 11; numerator = 0; denominator = 0; at = i }
shares_told (Err (SharesRefusal.Reading r)) = record { status = number r; numerator = 0; denominator = 0; at = place r }

abbrev pub pool_told : List ℕ → List ℕ → CShares
pool_told line s = shares_told (pool_shares line s)
