-- `separators::separate` meets its contract. Assumes nothing.
use mathlib.Core.Path.{refl, ◌∙◌, subst}
use Rattle.lattice.specs.Kept.{Holds}
use Rattle.lattice.proofs.HoldsLaws.{behind_same, kept_of_lem}
use Rattle.numbers.proofs.stages.ReadLaws.{call_legals}
use Rattle.separators.proofs.MarkLaws.{ends_agree}
use Rattle.separators.proofs.ApartLaws.{all_separate}
use Rattle.separators.proofs.StepLaws.{full_separate}
use Rattle.separators.proofs.separate.Goals as goal

pub returns-then-lattice-eq0 : goal.returns-then-lattice-eq0
returns-then-lattice-eq0 c = (refl, λ n es few q d. full_separate c.if-lattice-eq0.true q)

pub mark_places-requires : goal.mark_places-requires
mark_places-requires c = (c.if-lattice-eq0.false, (c.requires.0, c.requires.1, (c.requires.2.0, c.requires.2.1, call_legals c.requires.2.2)), refl)

pub set_all_apart-requires : goal.set_all_apart-requires
set_all_apart-requires c = (c.requires.0, c.requires.1, (c.requires.2.0, c.requires.2.1, (kept_of_lem c.requires.2.1 c.if-lattice-eq0.false).count, c.requires.2.2))

pub returns : goal.returns
returns c =
    let marks = c.mark_places.new.marks in (
      behind_same c.args.work.now c.set_all_apart.new.work c.set_all_apart.ensures.0,
      λ n es few q d. subst (Holds c.set_all_apart.new.work c.set_all_apart.result)
          (all_separate marks few es (λ p h. c.mark_places.ensures n es few q (call_legals d) p h ∙ ends_agree es p (call_legals d)) (call_legals d))
          (c.set_all_apart.ensures.1 n es few q (kept_of_lem q c.if-lattice-eq0.false).count d),
    )
