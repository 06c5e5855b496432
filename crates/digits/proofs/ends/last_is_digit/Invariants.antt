-- `digits::ends::last_is_digit` meets its contract. The loop's invariant: no shorter ending than of k bytes is one whole sequence, so that those
-- from k bytes on decide. Assumes nothing.
use mathlib.Core.Path.{◌≡◌}
use Prim.Native.Nat.{◌-◌}
use Rattle.digits.specs.TextEnds.{ends_from, ends_with_digit}
use Rattle.digits.proofs.ends.last_is_digit.Given as goal

abbrev pub invariant-loop-k : goal.invariant-loop-k
invariant-loop-k l = ends_from (5 - l.k) l.k l.txt ≡ ends_with_digit l.txt
