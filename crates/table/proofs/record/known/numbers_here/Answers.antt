-- `numbers_here` meets its contract: all that the map asks for lies within the bytes.
use native.Mathlib.Omega.{arith}
use borrow.Author.Tests.{eqb-true}
use Rattle.table.proofs.LayoutLaws.{numbers_are}
use Rattle.table.proofs.record.known.numbers_here.Goals as goal

pub number_if-requires : goal.number_if-requires
number_if-requires c e = omega (arith, eqb-true)

pub number_if-requires-2 : goal.number_if-requires-2
number_if-requires-2 c e = omega (arith, eqb-true)

pub number_if-requires-3 : goal.number_if-requires-3
number_if-requires-3 c e = omega (arith, eqb-true)

pub number_if-requires-4 : goal.number_if-requires-4
number_if-requires-4 c e = omega (arith, eqb-true)

pub number_if-requires-5 : goal.number_if-requires-5
number_if-requires-5 c e = omega (arith, eqb-true)

pub returns : goal.returns
returns c = numbers_are _ _ _ _ _ _ _ _ (omega arith) c.number_if.ensures c.number_if-2.ensures c.number_if-3.ensures c.number_if-4.ensures c.number_if-5.ensures
