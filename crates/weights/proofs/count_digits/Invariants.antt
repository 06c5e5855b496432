-- `weights::count_digits` meets its contract. The loop's invariant: n counts the 一 to 九 before the place, and is at most that. Assumes nothing.
use Prim.Native.Nat.{◌≤◌}
use mathlib.Core.Path.{◌≡◌}
use mathlib.Core.List.{List}
use Rattle.grammar.specs.Plain.{Char, utf8}
use Rattle.weights.proofs.LineLaws.{Split}
use Rattle.weights.proofs.count_digits.Given as goal

abbrev pub invariant-loop-place : goal.invariant-loop-place
invariant-loop-place l = (l.n ≤ l.place) × ((w : List Char) → l.line ≡ utf8 w → Split w l.place l.n)
