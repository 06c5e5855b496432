-- `fallback::any_digit` meets its contract. The loop's invariant: what is found so far, or is among the bytes that are left, is what the line has. Assumes nothing.
use mathlib.Core.Path.{◌≡◌}
use mathlib.Core.Bool.{◌||◌}
use lib.ListN.{drop}
use Rattle.fallback.specs.Marks.{any_digit}
use Rattle.fallback.proofs.any_digit.Given as goal

abbrev pub invariant-loop-b : goal.invariant-loop-b
invariant-loop-b l = l.found || any_digit (drop l.b-index l.line) ≡ any_digit l.line
