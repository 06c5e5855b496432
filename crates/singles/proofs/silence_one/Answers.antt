-- `singles::silence_one` meets its contract. Assumes nothing.
use mathlib.Core.Path.{refl, subst}
use Rattle.lattice.specs.Kept.{Holds}
use Rattle.singles.proofs.StageLaws.{counted, edge_spanned, is_on, is_off}
use Rattle.singles.proofs.silence_one.Goals as goal

pub offset_at-at-requires : goal.offset_at-at-requires
offset_at-at-requires c = ((c.requires.1.2.0, c.requires.1.2.1), c.requires.0, counted c.requires.1.2.1 c.requires.0 _ c.requires.1.2.2)

pub is_marked-requires : goal.is_marked-requires
is_marked-requires c = edge_spanned c.requires.1.2.1 c.requires.0 _ c.requires.1.2.2 c.requires.1.2.3 (c.offset_at-at.ensures c.requires.1.2.0 c.requires.1.2.1) c.requires.1.1

pub turn_off-requires : goal.turn_off-requires
turn_off-requires c = ((c.requires.1.2.0, c.requires.1.2.1), c.requires.0, counted c.requires.1.2.1 c.requires.0 _ c.requires.1.2.2)

pub returns-then-is_marked : goal.returns-then-is_marked
returns-then-is_marked c = (
  c.turn_off.ensures.0,
  λ n es few q x call. subst (Holds c.turn_off.new.work c.args.lattice) (is_on q c.requires.0 _ x call (c.offset_at-at.ensures es q) c.args.marks.now c.is_marked.ensures c.if-is_marked.true) (c.turn_off.ensures.1 es q),
)

pub returns-else-is_marked : goal.returns-else-is_marked
returns-else-is_marked c = (refl, λ n es few q x call. is_off q c.requires.0 _ x call (c.offset_at-at.ensures es q) c.args.marks.now c.is_marked.ensures c.if-is_marked.false)
