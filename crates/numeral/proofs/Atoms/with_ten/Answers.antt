-- `Atoms::with_ten` meets its contract: the run is multiplied, or an atom of its own begins.
use Rattle.numeral.proofs.StateLaws.{ten_grows, ten_begins}
use Rattle.numeral.proofs.Atoms.with_ten.Goals as goal

pub returns-then-self : goal.returns-then-self
returns-then-self c =
    let a = c.args in
    ten_grows a.self a.ten _ _ c.if-self.true c.times.ensures c.grown.ensures

pub returns : goal.returns
returns c = let a = c.args in ten_begins a.self a.ten _ c.if-self.false c.another.ensures
