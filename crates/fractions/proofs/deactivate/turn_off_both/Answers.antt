-- `fractions::deactivate::turn_off_both` meets its contract. Assumes nothing.
use Rattle.lattice.specs.Lattice.{turn_off_at}
use Rattle.lattice.proofs.HoldsLaws.{behind_twice}
use Rattle.fractions.proofs.deactivate.turn_off_both.Goals as goal

pub turn_off-requires-2 : goal.turn_off-requires-2
turn_off-requires-2 c = ((turn_off_at c.requires.0.0 _, c.turn_off.ensures.1 _ c.requires.0.1), c.requires.1, c.requires.3)

pub returns : goal.returns
returns c =
    let a = c.args in (
      behind_twice a.work.now c.turn_off.new.work c.turn_off-2.new.work c.turn_off-2.ensures.0 c.turn_off.ensures.0,
      λ es h. c.turn_off-2.ensures.1 (turn_off_at es a.left) (c.turn_off.ensures.1 es h),
    )
