-- `first_stages::five_passes::add_of_kind` meets its contract. The loop's invariant is `Adding`: what the lattice holds are the stored edges of this kind among the first i, and the list
-- behind it is as it was. Assumes nothing.
use Rattle.text.specs.Text.{chars}
use Rattle.first_stages.proofs.five_passes.AddingLaws.{Adding}
use Rattle.first_stages.proofs.five_passes.add_of_kind.Given as goal

abbrev pub invariant-loop-i : goal.invariant-loop-i
invariant-loop-i l = Adding (chars l.line) l.table l.kind l.stored l.initial.work (record { count = l.initial.count; len = l.initial.len }) l.work (record { count = l.count; len = l.len }) l.i
