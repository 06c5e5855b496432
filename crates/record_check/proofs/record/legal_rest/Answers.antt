-- `record_check::record::legal_rest` meets its contract: the first test that fails decides, or the last.
use Rattle.std.proofs.Common.{ap, not}
use mathlib.Core.Path.{sym, ◌∙◌}
use borrow.Author.Tests.{not-true, not-false}
use Rattle.record_check.proofs.record.legal_rest.Goals as goal

pub returns-then-not-head : goal.returns-then-not-head
returns-then-not-head c = rw (not-true c.args.head (ap not c.if-not-head.true))

pub legal_digit-requires : goal.legal_digit-requires
legal_digit-requires c =
    record {
      at_in_bounds = c.requires.at_in_bounds;
      within = (c.requires.within.0, c.requires.within.1);
    }

pub returns-then-not-legal_digit : goal.returns-then-not-legal_digit
returns-then-not-legal_digit c = rw (not-false c.args.head (ap not c.if-not-head.false), sym c.legal_digit.ensures ∙ not-true _ (ap not c.if-not-legal_digit.true))

pub legal_texts-requires : goal.legal_texts-requires
legal_texts-requires c = c.requires.within

pub returns : goal.returns
returns c = rw (not-false c.args.head (ap not c.if-not-head.false), sym c.legal_digit.ensures ∙ not-false _ (ap not c.if-not-legal_digit.false)) c.legal_texts.ensures
