-- `Atoms::another` meets its contract, by those of `total` and `nearest`.
use Rattle.numeral.proofs.Atoms.another.Goals as goal

pub returns : goal.returns
returns c = rw (c.total.ensures, c.nearest.ensures)
