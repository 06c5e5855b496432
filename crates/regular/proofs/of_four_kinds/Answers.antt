-- `regular::of_four_kinds` meets its contract: the tests are those of the definition. Assumes nothing.
use mathlib.Core.Path.{refl}
use Rattle.regular.specs.CheckRegular.{of_four_kinds}
use Rattle.regular.proofs.of_four_kinds.Goals as goal

pub returns : goal.returns
unfolding of_four_kinds
returns c = refl
