-- `Atoms::with_digit` meets its contract: the run goes on, or a next one begins.
use Rattle.numeral.proofs.StateLaws.{digit_grows, digit_begins}
use Rattle.numeral.proofs.Atoms.with_digit.Goals as goal

pub returns-then-self-eq1 : goal.returns-then-self-eq1
returns-then-self-eq1 c =
    let a = c.args in
    digit_grows a.self a.digit _ _ c.if-self-eq1.true c.longer.ensures c.grown.ensures

pub returns : goal.returns
returns c = let a = c.args in digit_begins a.self a.digit _ c.if-self-eq1.false c.another.ensures
