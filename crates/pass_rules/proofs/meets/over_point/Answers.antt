-- `over_point` meets its contract: the tests are those of the definition. Assumes nothing.
use native.Mathlib.Numerals.{add-one}
use Rattle.pass_rules.proofs.meets.over_point.Goals as goal

pub returns : goal.returns
returns c x y p q = rw (p, q, add-one)
