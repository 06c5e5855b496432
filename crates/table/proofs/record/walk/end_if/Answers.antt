-- `end_if` meets its contract: the string's length byte is within the bytes where the string is there.
use mathlib.Core.Path.{◌≡◌}
use mathlib.Core.Bool.{true}
use native.Mathlib.Omega.{arith}
use Rattle.table.proofs.record.walk.end_if.Goals as goal

pub overflow_add-result : goal.overflow_add-result
overflow_add-result c = omega (arith, c.requires c.if-there.true)

pub bounds-s-at : goal.bounds-s-at
bounds-s-at c = c.requires c.if-there.true

pub overflow_cast-result : goal.overflow_cast-result
overflow_cast-result c = omega (arith, c.type_inv.s c.args.at)

pub overflow_add-result-then-there : goal.overflow_add-result-then-there
overflow_add-result-then-there c = omega (arith, c.requires c.if-there.true, c.well_formed.0, c.type_inv.s c.args.at)

pub returns-then-there : goal.returns-then-there
returns-then-there c = let there : c.args.there ≡ true = c.if-there.true in rw there
