-- `fraction_choices::decision::marked` meets its contract: the choice between the neighbours that the tables keep. Assumes nothing.
use mathlib.Core.Path.{refl}
use mathlib.Core.Bool.{true, false}
use native.Mathlib.Omega.{arith}
use Rattle.fraction_choices.proofs.decision.NeighborLaws.{keeps_count}
use Rattle.fraction_choices.proofs.decision.DecisionLaws.{kept_below, marked_made, marked_valid}
use Rattle.fraction_choices.proofs.decision.marked.Goals as goal

pub otherwise-other-requires : goal.otherwise-other-requires
otherwise-other-requires c =
    let a = c.requires.0.1 in
    let n = keeps_count a.keeps in
    let h = kept_below true _ _ a.right _ c.requires.1 in
    ((_, a.keeps), omega arith)

pub between-requires : goal.between-requires
between-requires c =
    let a = c.requires.0.1 in
    let n = keeps_count a.keeps in
    let z = c.requires.1 in
    let h = kept_below true _ _ a.right _ z in
    let k = kept_below false _ _ a.left c.args.place.0 (omega arith) in
    ((_, a.keeps), omega arith, omega arith)

pub returns : goal.returns
returns c =
    λ es a.
    let other = c.otherwise-other.ensures es a.keeps in
    let r = c.between.ensures es a.keeps in (
      marked_made c.args.percent es _ _ c.args.place.0 c.args.size c.requires.1 a.left a.right refl refl other r,
      marked_valid c.args.percent es _ _ c.args.place.0 c.args.size c.requires.1 a.left a.right refl refl other r,
    )
