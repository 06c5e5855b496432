-- `edge_check::sound::numbers_sound` meets its contract by `numbers_tested`. Assumes nothing.
use Rattle.edge.proofs.CheckLaws.{numbers_tested}
use Rattle.edge_check.proofs.sound.numbers_sound.Goals as goal

pub returns : goal.returns
returns c = numbers_tested _ c.bit.ensures c.bit-2.ensures c.bit-3.ensures
