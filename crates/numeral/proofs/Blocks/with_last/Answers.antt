-- `Blocks::with_last` meets its contract, by the test of `fits`.
use Rattle.numeral.proofs.StateLaws.{last_fits, last_too_large}
use Rattle.numeral.proofs.Blocks.with_last.Goals as goal

pub returns-then-fits : goal.returns-then-fits
returns-then-fits c =
    let a = c.args in
    last_fits a.self a.value a.base _ c.fits.ensures c.if-fits.true c.plus.ensures

pub returns : goal.returns
returns c = let a = c.args in last_too_large a.self a.value a.base c.fits.ensures c.if-fits.false
