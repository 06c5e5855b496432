-- `edge::next::u16_or_zero` meets its contract: bytes past the end count as 0. Assumes nothing.
use Rattle.edge.proofs.LayoutLaws.{le_at_past, le_at_last}
use mathlib.Core.Path.{sym}
use native.Mathlib.Omega.{arith}
use Rattle.edge.proofs.next.u16_or_zero.Goals as goal

pub returns-then-s-at : goal.returns-then-s-at
returns-then-s-at c = sym (le_at_past _ _ 2 c.if-s-at.true)

pub overflow_cast-result : goal.overflow_cast-result
overflow_cast-result c = omega (arith, c.type_inv.s c.args.at)

pub returns-then-s-at-lt2 : goal.returns-then-s-at-lt2
returns-then-s-at-lt2 c = sym (le_at_last _ _ (omega arith))
