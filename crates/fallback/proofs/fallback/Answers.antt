-- `fallback::fallback` meets its contract. Assumes nothing.
use Rattle.std.proofs.Common.{ap, not}
use borrow.Author.Tests.{not-true}
use mathlib.Core.Path.{refl, sym, ◌∙◌}
use native.Mathlib.Omega.{arith}
use Rattle.fallback.proofs.MarkLaws.{covers_agree}
use Rattle.fallback.proofs.DigitLaws.{full_add_all, none_add, marks_add}
use Rattle.fallback.proofs.fallback.Goals as goal

pub returns-then-lattice-eq0 : goal.returns-then-lattice-eq0
returns-then-lattice-eq0 c = (refl, λ es q d. full_add_all es _ c.if-lattice-eq0.true q)

pub returns-then-not-any_digit : goal.returns-then-not-any_digit
returns-then-not-any_digit c = (refl, λ es q d. none_add es _ (sym c.any_digit.ensures ∙ not-true _ (ap not c.if-not-any_digit.true)) q)

pub mark_places-requires : goal.mark_places-requires
mark_places-requires c = (c.if-lattice-eq0.false, (_, c.requires.2, (c.requires.3.0, c.requires.3.1, c.requires.3.2)), refl)

pub returns : goal.returns
returns c = (c.add_unmarked.ensures.0, λ es q d. marks_add es c.mark_places.new.marks _ (λ i h. c.mark_places.ensures _ es c.requires.2 q d i (omega arith) ∙ covers_agree es i) (omega (arith, c.requires.1, c.requires.2)) (c.add_unmarked.ensures.1 es q))
