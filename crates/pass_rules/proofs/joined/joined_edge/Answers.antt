-- `joined_edge` meets its contract. Assumes nothing.
use mathlib.Core.Path.{◌≡◌, refl}
use Rattle.pass_list.specs.declared.run.Pass.{Pass}
use Rattle.pass_list.specs.declared.run.Pass.TheVariants.{D1, G1, G2, G3, G4}
use Rattle.pass_list.specs.declared.kind.Kind.TheVariants.{Joined}
use Rattle.pass_list.specs.Kind.{joined_by}
use Rattle.pass_list.specs.StoredPass.{over}
use Rattle.pass_list.specs.Answers.{pass_of}
use Rattle.pass_rules.proofs.joined.ConstantLaws.{of_nat_zero}
use Rattle.pass_rules.proofs.joined.joined_edge.Goals as goal

joined_by_lem : (p : Pass) → Joined p ≡ joined_by (pass_of p)
joined_by_lem D1 = refl
joined_by_lem G1 = refl
joined_by_lem G2 = refl
joined_by_lem G3 = refl
joined_by_lem G4 = refl

pub returns : goal.returns
unfolding over
returns c x y n p q r = rw (p, q, r, c.makes_large_power-large_power.ensures, joined_by_lem, of_nat_zero)
