-- `fraction_choices::decision::otherwise` meets its contract, by the kind of marker and the right neighbour. Assumes nothing.
use Rattle.std.proofs.Common.{ap, not}
use native.Mathlib.Omega.{arith}
use Rattle.fraction_choices.proofs.decision.DecisionLaws.{otherwise_connector, otherwise_none, otherwise_regular, otherwise_numeric}
use Rattle.fraction_choices.proofs.decision.otherwise.Goals.{then-not-percent-via-then-not-percent, then-not-percent-via-else-not-percent+then-right-eq0}
use Rattle.fraction_choices.proofs.decision.otherwise.Goals as goal

pub returns-then-not-percent : goal.returns-then-not-percent
returns-then-not-percent c =
    let a = c.args in
    λ es k.
    elim c.then-not-percent.branch [
      | then-not-percent-via-then-not-percent w ↦ otherwise_connector es a.percent a.right (ap not w.if-not-percent.true)
      | then-not-percent-via-else-not-percent+then-right-eq0 w ↦ otherwise_none es a.percent a.right (omega (arith, w.if-right-eq0.true))
    ]

pub returns-then-not-is_numeric : goal.returns-then-not-is_numeric
returns-then-not-is_numeric c = λ es k. let a = c.args in otherwise_regular es a.percent (ap not c.if-not-percent.false) a.right (λ e. omega (arith, e, c.if-right-eq0.false)) (c.is_numeric.ensures es k) (ap not c.if-not-is_numeric.true)

pub returns : goal.returns
returns c = λ es k. let a = c.args in otherwise_numeric es a.percent (ap not c.if-not-percent.false) a.right (λ e. omega (arith, e, c.if-right-eq0.false)) (c.is_numeric.ensures es k) (ap not c.if-not-is_numeric.false)
