-- `table_check::items::texts_end` meets its contract. The loop's invariant: the strings that are left end where all of them end.
use mathlib.Core.Path.{◌≡◌}
use Prim.Native.Nat.{◌-◌}
use Rattle.table.specs.Check.{read_texts}
use Rattle.table.specs.Answers.{end_of}
use Rattle.table_check.proofs.items.texts_end.Given as goal

abbrev pub invariant-loop : goal.invariant-loop
invariant-loop l = end_of (read_texts (l.n - l.counter) l.s l.at) ≡ end_of (read_texts l.n l.s l.from)
