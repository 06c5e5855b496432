-- `retags` meets its contract. Assumes nothing.
use mathlib.Core.Path.{◌≡◌}
use mathlib.Core.Bool.{true, false}
use Rattle.pass_list.specs.StoredPass.{retaggable, retags}
use Rattle.pass_rules.proofs.counted.retags.Goals as goal

pub returns-then-last-one_place : goal.returns-then-last-one_place
unfolding retags
returns-then-last-one_place c x y p q r = let t : retaggable x y ≡ true = rw (p, q, r) at c.if-last-one_place.true in rw (t, c.is_power_of_10.ensures, p)

pub returns : goal.returns
unfolding retags
returns c x y p q r = let t : retaggable x y ≡ false = rw (p, q, r) at c.if-last-one_place.false in rw t
