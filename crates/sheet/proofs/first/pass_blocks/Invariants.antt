-- `sheet::first::pass_blocks` meets its contract. The loop's invariant: the blocks before this one are passed, with their rows, none of them behind the position.
-- Assumes nothing.
use Prim.Native.Nat.{◌+◌, ◌*◌, ◌≤◌}
use mathlib.Core.Path.{◌≡◌}
use Rattle.sheet.specs.Walk.{At}
use Rattle.sheet.proofs.first.pass_blocks.Given as goal

abbrev pub invariant-loop-block : goal.invariant-loop-block
invariant-loop-block l = (l.index ≡ 272 + 1024 * l.block) × (l.rows ≤ l.position) × (l.rows ≤ l.index) × At l.index l.rows
