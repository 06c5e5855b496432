-- `fraction_choices::choose_all` meets its contract. The loop's invariant: the choices of the places before p are stored (`Chosen`). Assumes nothing.
use Rattle.text.specs.Text.{chars}
use Rattle.table.specs.Answers.{table_of}
use Rattle.fraction_choices.specs.Around.{HoldsNeighbors}
use Rattle.fraction_choices.proofs.ChooseLaws.{Chosen}
use Rattle.fraction_choices.proofs.choose_all.Given as goal

abbrev pub invariant-loop-p : goal.invariant-loop-p
invariant-loop-p l = Chosen (table_of l.table l.shape) (chars l.line) (HoldsNeighbors l.work l.lattice l.before l.behind) l.places l.choices l.p
