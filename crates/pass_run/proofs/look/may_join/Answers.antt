-- `may_join` meets its contract: what each pass's rule needs is in `proofs/look/FilterLaws.antt`. Assumes nothing.
use native.Mathlib.Omega.{arith}
use mathlib.Core.Path.{sym, ◌∙◌}
use Rattle.passes.specs.Passes.{D1, G1, G2, G3, G4}
use Rattle.pass_run.proofs.look.FilterLaws.{apart_fields, join_may}
use Rattle.pass_list.specs.Stored.{stored_at}
use Rattle.pass_run.proofs.look.may_join.Goals as goal

pub overflow_add-a : goal.overflow_add-a
overflow_add-a c = omega (arith, c.requires.0, c.well_formed)

pub u16_at-requires : goal.u16_at-requires
u16_at-requires c = omega (arith, c.requires.0)

pub u16_at-requires-2 : goal.u16_at-requires-2
u16_at-requires-2 c = omega (arith, c.requires.1)

pub may_cross-requires : goal.may_cross-requires
may_cross-requires c = c.requires.0

pub returns-then-u16_at : goal.returns-then-u16_at
returns-then-u16_at c j =
    let a = c.args in
    c.may_cross.ensures (stored_at a.list.now a.b) (apart_fields a.list.now a.a a.b (λ e. c.if-u16_at.true (c.u16_at.ensures ∙ e ∙ sym c.u16_at-2.ensures))) j

pub overflow_add-a-2 : goal.overflow_add-a-2
overflow_add-a-2 c = omega (arith, c.requires.0, c.well_formed)

pub u16_at-l-requires : goal.u16_at-l-requires
u16_at-l-requires c = omega (arith, c.requires.0)

pub overflow_add-b : goal.overflow_add-b
overflow_add-b c = omega (arith, c.requires.1, c.well_formed)

pub u16_at-r-requires : goal.u16_at-r-requires
u16_at-r-requires c = omega (arith, c.requires.1)

pub overflow_add-a-3 : goal.overflow_add-a-3
overflow_add-a-3 c = omega (arith, c.requires.0, c.well_formed)

pub u64_at-base-requires : goal.u64_at-base-requires
u64_at-base-requires c = omega (arith, c.requires.0)

pub overflow_add-b-2 : goal.overflow_add-b-2
overflow_add-b-2 c = omega (arith, c.requires.1, c.well_formed)

pub u64_at-next-requires : goal.u64_at-next-requires
u64_at-next-requires c = omega (arith, c.requires.1)

pub returns-in-D1 : goal.returns-in-D1
returns-in-D1 c j = let a = c.args in rw (c.u16_at-l.ensures, c.u16_at-r.ensures) (join_may a.list.now a.a a.b D1 (rw c.in-D1.is at j))

pub returns-in-G1 : goal.returns-in-G1
returns-in-G1 c j = let a = c.args in rw (c.u16_at-r.ensures, c.u64_at-base.ensures, c.u64_at-next.ensures) (join_may a.list.now a.a a.b G1 (rw c.in-G1.is at j))

pub returns-in-G2 : goal.returns-in-G2
returns-in-G2 c j = let a = c.args in rw (c.u16_at-l.ensures, c.u16_at-r.ensures, c.u64_at-base.ensures, c.u64_at-next.ensures) (join_may a.list.now a.a a.b G2 (rw c.in-G2.is at j))

pub returns-in-G3 : goal.returns-in-G3
returns-in-G3 c j = let a = c.args in rw (c.u16_at-l.ensures, c.u16_at-r.ensures) (join_may a.list.now a.a a.b G3 (rw c.in-G3.is at j))

pub returns-in-G4 : goal.returns-in-G4
returns-in-G4 c j = let a = c.args in rw (c.u64_at-base.ensures, c.u64_at-next.ensures) (join_may a.list.now a.a a.b G4 (rw c.in-G4.is at j))
