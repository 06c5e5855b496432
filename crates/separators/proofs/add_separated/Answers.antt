-- `separators::add_separated` meets its contract: the separator by bit 2 of the map. Assumes nothing.
use mathlib.Core.Path.{subst}
use native.Mathlib.Omega.{arith}
use Rattle.edge.specs.Edge.{Edge}
use Rattle.lattice.specs.Lattice.{add}
use Rattle.lattice.specs.Kept.{Holds}
use Rattle.lattice.proofs.HoldsLaws.{behind_same}
use Rattle.lattice_add.proofs.copy.CopyLaws.{source_less}
use Rattle.separators.proofs.StepLaws.{copy_space, copy_dot}
use Rattle.separators.proofs.add_separated.Goals as goal

pub add_copy-requires : goal.add_copy-requires
add_copy-requires c = (c.requires.0, (c.requires.1.0, source_less (omega arith) c.requires.1.1))

pub returns-then-bit : goal.returns-then-bit
returns-then-bit c = (
  behind_same c.args.work.now c.add_copy.new.work c.add_copy.ensures.0,
  λ es e h q. subst (λ (z : Edge). Holds c.add_copy.new.work c.add_copy.result (add es z)) (copy_space q c.u16_at-map.ensures c.bit.ensures c.if-bit.true) (c.add_copy.ensures.1 es e h (source_less (omega arith) q)),
)

pub returns : goal.returns
returns c = (
  behind_same c.args.work.now c.add_copy-2.new.work c.add_copy-2.ensures.0,
  λ es e h q. subst (λ (z : Edge). Holds c.add_copy-2.new.work c.add_copy-2.result (add es z)) (copy_dot q c.u16_at-map.ensures c.bit.ensures c.if-bit.false) (c.add_copy-2.ensures.1 es e h q),
)
