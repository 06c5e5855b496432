-- `marks::mark_places` meets its contract, by what is asked. Assumes nothing.
use Rattle.std.proofs.Common.{rules, of_calls}
use native.Mathlib.Omega.{arith}
use Rattle.marks.specs.Marked.{digit_ends, ending, one_place, starting}
use Rattle.marks.proofs.mark_places.Goals as goal

pub mark_all-requires : goal.mark_all-requires
mark_all-requires c = record { lent = c.requires; callable = λ at s. search (rules, of_calls) }

pub mark_all-requires-in-OnePlace : goal.mark_all-requires-in-OnePlace
mark_all-requires-in-OnePlace c = record { lent = c.requires; callable = λ at s. search (rules, of_calls) }

pub returns-in-DigitEnds : goal.returns-in-DigitEnds
returns-in-DigitEnds c = rw c.in-DigitEnds.is (c.mark_all.ensures digit_ends ending (record { answers = λ at r s p. search (rules, of_calls); inside = λ e h. omega arith }))

pub returns-in-OnePlace : goal.returns-in-OnePlace
returns-in-OnePlace c = rw c.in-OnePlace.is (c.mark_all-in-OnePlace.ensures one_place starting (record { answers = λ at r s p. search (rules, of_calls); inside = λ e h. omega arith }))
