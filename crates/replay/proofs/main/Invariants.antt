-- `replay::main` is safe and ends. The loop's invariant: the last table lies in its buffer.
use mathlib.Core.Path.{◌≡◌}
use Prim.Native.Nat.{◌≤◌}
use lib.ListN.{length}
use Rattle.replay.proofs.main.Given as goal

abbrev pub invariant-cases : goal.invariant-cases
invariant-cases l = (6 ≡ length l.head) × (65536 ≡ length l.table) × (l.t ≤ length l.table)
