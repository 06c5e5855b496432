-- `wide::fits` meets its contract. Assumes nothing.
use Rattle.wide.specs.Numbers.{wide_of}
use Rattle.wide.proofs.WideLaws.{fits_of}
use Rattle.wide.proofs.fits.Goals as goal

pub returns : goal.returns
unfolding wide_of
returns c = fits_of c.args.x.hi c.args.x.lo
