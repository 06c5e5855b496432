-- `may_take` meets its contract: what each pass's rule needs is in `pass_run::look`, proofs/look/FilterLaws.antt. Assumes nothing.
use native.Mathlib.Omega.{arith}
use Rattle.passes.specs.Passes.{D1, G1, G2, G3, G4}
use Rattle.pass_run.proofs.look.FilterLaws.{take_may}
use Rattle.pass_run.proofs.take.may_take.Goals as goal

pub u16_at-start-requires : goal.u16_at-start-requires
u16_at-start-requires c = omega (arith, c.requires)

pub overflow_add-at : goal.overflow_add-at
overflow_add-at c = omega (arith, c.requires, c.well_formed)

pub u16_at-r-requires : goal.u16_at-r-requires
u16_at-r-requires c = omega (arith, c.requires)

pub overflow_add-at-2 : goal.overflow_add-at-2
overflow_add-at-2 c = omega (arith, c.requires, c.well_formed)

pub u64_at-next-requires : goal.u64_at-next-requires
u64_at-next-requires c = omega (arith, c.requires)

pub returns-in-D1 : goal.returns-in-D1
returns-in-D1 c x e j = let a = c.args in rw (e, c.u16_at-start.ensures, c.u16_at-r.ensures) (take_may a.list.now a.at D1 x (rw c.in-D1.is at j))

pub returns-in-G1 : goal.returns-in-G1
returns-in-G1 c x e j = let a = c.args in rw (e, c.u16_at-start.ensures) (take_may a.list.now a.at G1 x (rw c.in-G1.is at j))

pub returns-in-G2 : goal.returns-in-G2
returns-in-G2 c x e j = let a = c.args in rw (e, c.u16_at-start.ensures, c.u16_at-r.ensures, c.is_below.ensures x (rw e), c.u64_at-next.ensures) (take_may a.list.now a.at G2 x (rw c.in-G2.is at j))

pub returns-in-G3 : goal.returns-in-G3
returns-in-G3 c x e j = let a = c.args in rw (e, c.u16_at-start.ensures) (take_may a.list.now a.at G3 x (rw c.in-G3.is at j))

pub returns-in-G4 : goal.returns-in-G4
returns-in-G4 c x e j = let a = c.args in rw (e, c.u16_at-start.ensures, c.u64_at-next.ensures) (take_may a.list.now a.at G4 x (rw c.in-G4.is at j))
