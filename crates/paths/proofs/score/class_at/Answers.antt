-- `paths::score::class_at` meets its contract, by the bits 0 and 7 of the map. Assumes nothing.
use Rattle.std.proofs.Common.{ap, not}
use mathlib.Core.Path.{◌∙◌}
use Rattle.paths.specs.Best.{regular_class}
use Rattle.paths.proofs.ShownLaws.{part_within}
use native.Mathlib.Omega.{arith}
use Rattle.edge.proofs.CheckLaws.{type_within}
use Rattle.paths.proofs.BestLaws.{class_regular, class_skipped, class_active, class_inactive}
use Rattle.paths.proofs.score.class_at.Goals as goal

pub overflow_add-from : goal.overflow_add-from
overflow_add-from c = omega (arith, type_within _ _ _ _ c.edge_at-e.ensures c.requires)

pub slice_bounds-regular_class-end : goal.slice_bounds-regular_class-end
slice_bounds-regular_class-end c = type_within _ _ _ _ c.edge_at-e.ensures c.requires

pub returns-then-not-bit : goal.returns-then-not-bit
returns-then-not-bit c = class_regular _ _ _ c.edge_at-e.ensures c.bit.ensures (ap not c.if-not-bit.true) (c.regular_class.ensures ∙ ap regular_class (part_within _ _ _))

pub returns-then-skip : goal.returns-then-skip
returns-then-skip c = class_skipped _ _ _ c.edge_at-e.ensures c.bit.ensures (ap not c.if-not-bit.false) c.if-skip.true

pub returns-then-bit : goal.returns-then-bit
returns-then-bit c = class_active _ _ _ c.edge_at-e.ensures c.bit.ensures (ap not c.if-not-bit.false) c.if-skip.false c.bit-2.ensures c.if-bit.true

pub returns-else-bit : goal.returns-else-bit
returns-else-bit c = class_inactive _ _ _ c.edge_at-e.ensures c.bit.ensures (ap not c.if-not-bit.false) c.if-skip.false c.bit-2.ensures c.if-bit.false
