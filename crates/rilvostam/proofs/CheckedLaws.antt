-- Laws of `table_told` (`specs/TableTold.antt`): what the check of a table answers, told to C. Assumes nothing.
use Prim.Native.Nat.{ℕ}
use mathlib.Core.Path.{◌≡◌, refl, sym, ap, ◌∙◌}
use mathlib.Core.List.{List}
use Rattle.fields.specs.Fields.{le_at}
use Rattle.table.specs.Check.{read_table, cause_number}
use Rattle.table.specs.declared.shape.Shape.{Shape}
use Rattle.table_check.specs.Shape.{TableIs, ShapeIs, shape_of}
use Rattle.characters.proofs.LegalLaws.{table_told_lem}
use Rattle.answers.specs.Answers.{status_of}
use Rattle.rilvostam.specs.TableTold.{table_told}
use Rattle.std.specs.Prelude.{Result, Ok, Err}
use Rattle.table.specs.declared.shape.TableRefusal.{TableRefusal}

module _ (s : List ℕ) {r : Result Shape TableRefusal} (is : TableIs s r) where
  count_of : (h : Shape) → ShapeIs s (Ok h) → h.count ≡ le_at s 0 2
  unfolding ShapeIs shape_of
  count_of h e = ap (λ (k : Shape). k.count) e

  pub table_is_told : {h : Shape} → r ≡ Ok h → status_of 0 h.count ≡ table_told (read_table s)
  table_is_told {h} k =
      let t : TableIs s (Ok h) = rw k at is in
      ap (status_of 0) (count_of h t.shape ∙ sym (table_told_lem s (sym t.table)).counted) ∙ ap table_told t.table

  pub refusal_is_told : {e : TableRefusal} → r ≡ Err e → status_of (cause_number e.cause) e.at.0 ≡ table_told (read_table s)
  refusal_is_told {e} k = let t : TableIs s (Err e) = rw k at is in ap table_told t.table
