-- `record_check::record::legal_texts` meets its contract: the first string that is not well-formed decides, or the last.
use Rattle.std.proofs.Common.{ap, not}
use mathlib.Core.Path.{sym, ◌∙◌}
use borrow.Author.Tests.{not-true, not-false}
use Rattle.record_check.proofs.record.legal_texts.Goals as goal

pub returns-then-not-well_formed : goal.returns-then-not-well_formed
returns-then-not-well_formed c = rw (sym c.well_formed-2.ensures ∙ not-true _ (ap not c.if-not-well_formed.true))

pub returns-then-not-well_formed_if : goal.returns-then-not-well_formed_if
returns-then-not-well_formed_if c = rw (sym c.well_formed-2.ensures ∙ not-false _ (ap not c.if-not-well_formed.false), sym c.well_formed_if.ensures ∙ not-true _ (ap not c.if-not-well_formed_if.true))

pub returns : goal.returns
returns c = rw (sym c.well_formed-2.ensures ∙ not-false _ (ap not c.if-not-well_formed.false), sym c.well_formed_if.ensures ∙ not-false _ (ap not c.if-not-well_formed_if.false)) c.well_formed_if-2.ensures
