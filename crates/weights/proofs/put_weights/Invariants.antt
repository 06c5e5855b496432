-- `weights::put_weights` meets its contract. The loop's invariant: the weights behind the place are stored. The mathematics of a turn is in `proofs/OutLaws.antt`.
-- Assumes nothing.
use mathlib.Core.Path.{◌≡◌}
use mathlib.Core.List.{List}
use Rattle.grammar.specs.Plain.{Char, utf8}
use Rattle.weights.proofs.OutLaws.{Walked}
use Rattle.weights.proofs.put_weights.Given as goal

abbrev pub invariant-loop-place : goal.invariant-loop-place
invariant-loop-place l = (w : List Char) → l.line ≡ utf8 w → Walked w l.initial.out l.out l.units l.place l.k
