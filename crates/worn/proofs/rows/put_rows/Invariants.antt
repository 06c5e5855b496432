-- `worn::rows::put_rows` meets its contract. The loop's invariant: in the copy the line stands but for three bytes, and the rows so far are those of the characters tried.
-- Assumes nothing.
use mathlib.Core.Path.{◌≡◌}
use mathlib.Core.List.{List}
use lib.ListN.{length}
use Rattle.grammar.specs.Plain.{Char}
use Rattle.worn.specs.Tried.{Stands}
use Rattle.worn.proofs.TriedLaws.{Rowing}
use Rattle.worn.proofs.rows.put_rows.Given as goal

abbrev pub invariant-loop-rank : goal.invariant-loop-rank
invariant-loop-rank l = ((x y : List Char) → Stands l.initial.copy l.len l.at x y → Rowing x y l.initial.rows l.rows l.copy l.len l.at l.end l.rank) × (length l.rows ≡ length l.initial.rows) × (length l.copy ≡ length l.initial.copy)
