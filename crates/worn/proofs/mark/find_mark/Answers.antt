-- `worn::mark::find_mark` meets its contract: no □ behind the first characters of the plain table; something else behind it; or nothing. Assumes nothing.
use Rattle.std.proofs.Common.{ap, not}
use mathlib.Core.Path.{sym, ◌∙◌}
use native.Mathlib.Omega.{arith}
use borrow.Author.Tests.{not-true, not-false}
use Rattle.worn.proofs.MarkLaws.{no_mark, mark_room, not_alone, alone}
use Rattle.worn.proofs.mark.find_mark.Goals as goal

pub returns-then-not-is_mark : goal.returns-then-not-is_mark
returns-then-not-is_mark c = no_mark _ _ c.plain_end-at.ensures (sym c.is_mark.ensures ∙ not-true _ (ap not c.if-not-is_mark.true))

pub plain_end-end-requires : goal.plain_end-end-requires
plain_end-end-requires c = mark_room _ _ c.plain_end-at.ensures (sym c.is_mark.ensures ∙ not-false _ (ap not c.if-not-is_mark.false))

pub returns-then-end-line : goal.returns-then-end-line
returns-then-end-line c = not_alone _ _ c.plain_end-at.ensures (sym c.is_mark.ensures ∙ not-false _ (ap not c.if-not-is_mark.false)) _ c.plain_end-end.ensures (omega (arith, c.if-end-line.true))

pub returns : goal.returns
returns c = alone _ _ c.plain_end-at.ensures (sym c.is_mark.ensures ∙ not-false _ (ap not c.if-not-is_mark.false)) _ c.plain_end-end.ensures (omega (arith, c.if-end-line.false))
