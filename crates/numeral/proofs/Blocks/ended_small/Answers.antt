-- `Blocks::ended_small` meets its contract: a single digit behind a block, or any other small.
use Rattle.numeral.proofs.StateLaws.{single_ends, small_ends}
use Rattle.numeral.proofs.Blocks.ended_small.Goals as goal

pub returns-then-self-s : goal.returns-then-self-s
returns-then-self-s c =
    let a = c.args in
    single_ends a.self a.s _ _ c.if-self-s.true c.times.ensures c.with_last.ensures

pub returns : goal.returns
returns c =
    let a = c.args in
    small_ends a.self a.s _ _ c.if-self-s.false c.total.ensures c.with_last-2.ensures
