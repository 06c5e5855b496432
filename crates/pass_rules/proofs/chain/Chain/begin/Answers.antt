-- `Chain::begin` meets its contract. Assumes nothing.
use mathlib.Core.Path.{◌≡◌, sym, ap, ◌∙◌}
use mathlib.Core.Bool.{true, false}
use Rattle.pass_list.specs.declared.record.PassEdge.{PassEdge}
use Rattle.pass_list.specs.StoredPass.{begin}
use Rattle.pass_rules.proofs.chain.Chain.begin.Goals as goal

pub returns-then-e : goal.returns-then-e
unfolding begin
returns-then-e c y p = let g : y.gap ≡ true = sym (ap (λ (e : PassEdge). e.num.gap) p) ∙ c.if-e.true in rw (p, g)

pub returns-else-e : goal.returns-else-e
unfolding begin
returns-else-e c y p = let g : y.gap ≡ false = sym (ap (λ (e : PassEdge). e.num.gap) p) ∙ c.if-e.false in rw (p, g)
