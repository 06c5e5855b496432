-- `first_stages::bare::bare_char` meets its contract: an ASCII digit is not bare, nor is a character with a record. Assumes nothing.
use Rattle.std.proofs.Common.{ap, not}
use mathlib.Core.Path.{◌∙◌}
use Rattle.table.proofs.filter.FilterLaws.{look_unmarked}
use Rattle.first_stages.proofs.bare.BareLaws.{digit_bare, none_bare, sought_bare}
use Rattle.first_stages.proofs.bare.bare_char.Goals as goal

pub returns-then-code : goal.returns-then-code
returns-then-code c = digit_bare _ _ c.if-code.true

-- a character without its bit has no record
pub returns-then-not-may_have : goal.returns-then-not-may_have
returns-then-not-may_have c = none_bare _ _ c.if-code.false (c.requires.1.1 c.args.code (look_unmarked _ _ c.may_have.ensures (ap not c.if-not-may_have.true)))

pub returns : goal.returns
returns c = c.is_absent.ensures ∙ sought_bare _ _ c.if-code.false
