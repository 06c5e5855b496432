-- `table_check::items::list_end` meets its contract: the count, then the strings.
use mathlib.Core.Path.{◌∙◌}
use native.Mathlib.Omega.{arith}
use Rattle.table.proofs.CheckLaws.{list_missing, list_is}
use Rattle.table_check.proofs.items.list_end.Goals as goal

pub returns-then-s-at : goal.returns-then-s-at
returns-then-s-at c = rw c.refusal_at.ensures (list_missing _ _ c.if-s-at.true)

pub overflow_cast-n : goal.overflow_cast-n
overflow_cast-n c = omega (arith, c.type_inv.s c.args.at)

pub returns : goal.returns
returns c = c.texts_end.ensures ∙ list_is _ _ c.if-s-at.false
