-- `digits::ends::ends_with_digit` meets its contract: a byte of ASCII is a whole character, and of any other text `last_is_digit` answers. Assumes nothing.
use mathlib.Core.Path.{◌∙◌}
use native.Mathlib.Omega.{arith}
use Rattle.digits.proofs.DigitsLaws.{tested}
use Rattle.digits.proofs.TextEndsLaws.{empty_ends, ascii_ends}
use Rattle.digits.proofs.ends.ends_with_digit.Goals as goal

pub returns-then-txt-eq0 : goal.returns-then-txt-eq0
returns-then-txt-eq0 c = empty_ends _ c.if-txt-eq0.true

pub returns-then-b-lt128 : goal.returns-then-b-lt128
returns-then-b-lt128 c = tested _ c.is_digit.ensures ∙ ascii_ends _ (omega arith) c.if-b-lt128.true
