-- S-11 of 02 for the call. "A line and its formal twin, neither refused, get the same five lists but for orig_txt", said of the bytes of any two tables that differ by a renaming
-- (`passes`, specs/Renaming.antt), whatever edges are given: of the lists that the definition of the call uses (`specs/Call.antt`). Assumes nothing.
use Prim.Native.Nat.{ℕ}
use mathlib.Core.Path.{◌≡◌, ap, ◌∙◌}
use mathlib.Core.List.{List}
use Rattle.text.specs.Text.{chars}
use Rattle.table.specs.Table.{Table}
use Rattle.table.specs.Check.{Fine, read_table}
use Rattle.passes.specs.Characters.{first_list}
use Rattle.passes.specs.Passes.{Pass, through}
use Rattle.passes.specs.Renaming.{Renaming, twin, Remaining, but_text}
use Rattle.passes.proofs.Twins.{twin_list}
use Rattle.numbers.specs.Call.{add_numbers}
use Rattle.numbers.proofs.Accepted.{Listed}

-- the two tables' bytes and the tables that they say; the line and its twin
module _ (table table' : List ℕ) (t u : Table) (at at' : ℕ) (reads : read_table table ≡ Fine t at) (reads' : read_table table' ≡ Fine u at') (f : ℕ → ℕ) (R : Renaming f t u)
    (line line' : List ℕ) (remaining : Remaining t u (chars line)) (twins : chars line' ≡ twin f t (chars line)) where
  pub call_twins : (given given' : List ℕ) (work work' out out' : ℕ) → Listed (add_numbers line table given work out) → Listed (add_numbers line' table' given' work' out')
      → (ps : List Pass) → but_text (through ps (first_list u (chars line'))) ≡ but_text (through ps (first_list t (chars line)))
  call_twins _ _ _ _ _ _ _ _ ps = ap (λ (w : List ℕ). but_text (through ps (first_list u w))) twins ∙ twin_list f t u R (chars line) remaining ps
