-- `may_cross` meets its contract: only D1 joins edges that don't touch. Assumes nothing.
use mathlib.Core.Path.{refl}
use native.Mathlib.Omega.{arith}
use Rattle.passes.specs.Passes.{G1, G2, G3, G4}
use Rattle.pass_run.proofs.look.FilterLaws.{cross_point, cross_none}
use Rattle.pass_run.proofs.look.may_cross.Goals as goal

pub overflow_add-a : goal.overflow_add-a
overflow_add-a c = omega (arith, c.requires, c.well_formed)

pub u16_at-requires : goal.u16_at-requires
u16_at-requires c = omega (arith, c.requires)

pub returns-in-D1 : goal.returns-in-D1
returns-in-D1 c y t j = let a = c.args in rw c.u16_at.ensures (cross_point a.list.now a.a y t (rw c.in-D1.is at j))

pub returns-in-G1 : goal.returns-in-G1
returns-in-G1 c y t j = let a = c.args in absurd (cross_none a.list.now a.a y t G1 refl (rw c.in-G1.is at j))

pub returns-in-G2 : goal.returns-in-G2
returns-in-G2 c y t j = let a = c.args in absurd (cross_none a.list.now a.a y t G2 refl (rw c.in-G2.is at j))

pub returns-in-G3 : goal.returns-in-G3
returns-in-G3 c y t j = let a = c.args in absurd (cross_none a.list.now a.a y t G3 refl (rw c.in-G3.is at j))

pub returns-in-G4 : goal.returns-in-G4
returns-in-G4 c y t j = let a = c.args in absurd (cross_none a.list.now a.a y t G4 refl (rw c.in-G4.is at j))
