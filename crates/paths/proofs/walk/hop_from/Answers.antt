-- `paths::walk::hop_from` meets its contract, by whether the place has a right neighbour. Assumes nothing.
use native.Mathlib.Omega.{arith}
use Rattle.paths.proofs.TableLaws.{hop_pass, hop_take, hop_head}
use Rattle.paths.proofs.walk.hop_from.Goals as goal

pub returns-then-right-p-eq0 : goal.returns-then-right-p-eq0
returns-then-right-p-eq0 c = hop_pass c.args.s.now c.args.right.now.tops c.args.right.now.ats c.requires.0 c.args.place.0 c.requires.1 c.if-right-p-eq0.true

pub next_at-requires : goal.next_at-requires
next_at-requires c = omega (arith, hop_head c.args.s.now c.args.right.now.tops c.args.right.now.ats c.requires.0 c.args.place.0 c.requires.1 c.if-right-p-eq0.false)

pub overflow_add-at : goal.overflow_add-at
overflow_add-at c = omega (arith, hop_head c.args.s.now c.args.right.now.tops c.args.right.now.ats c.requires.0 c.args.place.0 c.requires.1 c.if-right-p-eq0.false)

pub u16_at-requires : goal.u16_at-requires
u16_at-requires c = omega (arith, hop_head c.args.s.now c.args.right.now.tops c.args.right.now.ats c.requires.0 c.args.place.0 c.requires.1 c.if-right-p-eq0.false)

pub returns : goal.returns
returns c = hop_take c.args.s.now c.args.right.now.tops c.args.right.now.ats c.requires.0 c.args.place.0 c.requires.1 c.if-right-p-eq0.false c.next_at.ensures c.u16_at.ensures
