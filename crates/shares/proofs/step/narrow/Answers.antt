-- `shares::step::narrow` meets its contract. Assumes nothing.
use mathlib.Core.Path.{sym, ◌∙◌}
use Rattle.shares.proofs.AddLaws.{both_fit, narrow_fits, narrow_above}
use Rattle.shares.proofs.step.narrow.Goals as goal

pub returns-then-fits : goal.returns-then-fits
returns-then-fits c n d is-n is-d = narrow_fits _ _ n d is-n is-d (sym (both_fit _ _ n d is-n is-d c.fits.ensures c.fits-2.ensures) ∙ c.if-fits.true)

pub returns-else-fits : goal.returns-else-fits
returns-else-fits c n d is-n is-d = narrow_above n d (sym (both_fit _ _ n d is-n is-d c.fits.ensures c.fits-2.ensures) ∙ c.if-fits.false)
