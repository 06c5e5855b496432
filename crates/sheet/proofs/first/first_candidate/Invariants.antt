-- `sheet::first::first_candidate` meets its contract. The loop's invariant: the candidates before this one are passed, with their rows, none of them behind the position.
-- Assumes nothing.
use mathlib.Core.Path.{◌≡◌}
use lib.ListN.{length}
use Rattle.sheet.specs.Walk.{PassedIs}
use Rattle.sheet.proofs.first.first_candidate.Given as goal

abbrev pub invariant-loop-index : goal.invariant-loop-index
invariant-loop-index l = PassedIs l.position l.index l.rows × (length l.buf ≡ 12)
