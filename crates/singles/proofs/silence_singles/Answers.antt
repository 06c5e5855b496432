-- `singles::silence_singles` meets its contract: the marks are those of the list after G4, and the walk goes by them. Assumes nothing.
use mathlib.Core.Path.{refl, subst}
use Rattle.lattice.specs.Kept.{Holds}
use Rattle.singles.proofs.StageLaws.{full_quiet, stage_is}
use Rattle.singles.proofs.silence_singles.Goals as goal

pub returns-then-lattice-eq0 : goal.returns-then-lattice-eq0
returns-then-lattice-eq0 c = (refl, λ table n es few g q legals. full_quiet _ c.if-lattice-eq0.true q)

pub returns : goal.returns
returns c = (
  c.silence_all.ensures.0,
  λ table n es few g q legals. subst (Holds _ _) (stage_is _ _ few (c.mark_all_barred.ensures table g) legals) (c.silence_all.ensures.1 n es few q legals),
)
