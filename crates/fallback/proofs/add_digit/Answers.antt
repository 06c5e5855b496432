-- `fallback::add_digit` meets its contract. Assumes nothing.
use mathlib.Core.Path.{refl}
use native.Mathlib.Omega.{arith}
use Rattle.std.proofs.lemmas.Bool.Decides.{nat_tests}
use Rattle.fallback.proofs.DigitLaws.{add_digit_none, add_digit_one}
use Rattle.fallback.proofs.add_digit.Goals as goal

pub returns-then-marked-is_ascii_digit : goal.returns-then-marked-is_ascii_digit
returns-then-marked-is_ascii_digit c = (refl, add_digit_none c.args.byte _ c.args.marked (grind (arith, nat_tests, c.is_ascii_digit.ensures.value, c.if-marked-is_ascii_digit.true)))

pub returns : goal.returns
returns c = (c.add_regular.ensures.0, λ es q. add_digit_one c.args.byte _ c.args.marked (grind (arith, nat_tests, c.is_ascii_digit.ensures.value, c.if-marked-is_ascii_digit.false)) es (c.add_regular.ensures.1 es q))
