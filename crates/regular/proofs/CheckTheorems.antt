-- What `check_regular` tells: the table that the bytes are is regular exactly where the answer is Regular; and at the offset of any other answer stands a record of none of
-- the four kinds. The words are defined in `specs/CheckRegular.antt` (check_regular), `specs/Kinds.antt` (regular) and in the specs/ of `table` (read_table). Assumes nothing.
use Prim.Native.Nat.{ℕ, zero, suc}
use mathlib.Core.Path.{◌≡◌, refl, sym, ap, ◌∙◌}
use mathlib.Core.Logic.{◌↔◌}
use mathlib.Core.Bool.{Bool, true, false, cond, ◌&&◌, false≢true}
use mathlib.Core.List.{List, [], ◌∷◌}
use mathlib.Core.Option.{Option, none, some, some-ne-none, some-injective}
use native.Mathlib.Omega.{arith}
use Rattle.table.specs.Table.{Record, Table}
use Rattle.table.specs.Layout.{Field, Is, Fault, on_field, read_record, many_at, records_at}
use Rattle.table.specs.Check.{Fine, read_table}
use Rattle.table_check.specs.Shape.{shape_of}
use Rattle.table_grammar.specs.Kinds.{regular_record, regular_records, regular}
use Rattle.regular.specs.CheckRegular.{irregular_at, irregular, regular_answer, check_regular}
use Rattle.regular.proofs.CheckLaws.{table_records}
use Rattle.std.specs.Prelude as std
use Rattle.std.specs.Prelude.{None, Ok, Result}
use Rattle.text.specs.declared.Offset.{Offset}
use Rattle.table.specs.declared.shape.TableRefusal.{TableRefusal}

-- none is irregular exactly where all are regular
all_regular : (n : ℕ) (s : List ℕ) (at : ℕ) → (irregular_at n s at ≡ none) ↔ (regular_records (records_at n s at) ≡ true)
unfolding irregular_at many_at
all_regular zero s at = (λ h. refl, λ h. refl)
all_regular (suc n) s at = go (read_record s at) (λ next. all_regular n s next)
  where
    one : (r : Record) (next : ℕ) (b : Bool) → ((irregular_at n s next ≡ none) ↔ (regular_records (records_at n s next) ≡ true))
        → (cond b (irregular_at n s next) (some at) ≡ none) ↔ (b && regular_records (records_at n s next) ≡ true)
    one r next true ih = ih
    one r next false ih = (λ h. absurd (some-ne-none at h), λ h. absurd (false≢true h))

    go : (f : Field Record) → ((next : ℕ) → (irregular_at n s next ≡ none) ↔ (regular_records (records_at n s next) ≡ true))
        → (on_field f (λ r next. cond (regular_record r) (irregular_at n s next) (some at)) none ≡ none)
        ↔ (regular_records (on_field f (λ r next. r ∷ records_at n s next) []) ≡ true)
    go (Is r next) ih = one r next (regular_record r) (ih next)
    go Fault ih = (λ h. refl, λ h. refl)

-- the offset is that of a record of none of the four kinds
pub irregular_record : (n : ℕ) (s : List ℕ) (from at : ℕ) → irregular_at n s from ≡ some at → (r : Record) × (next : ℕ) × (read_record s at ≡ Is r next) × (regular_record r ≡ false)
unfolding irregular_at
irregular_record zero s from at e = absurd (some-ne-none at (sym e))
irregular_record (suc n) s from at e = go (read_record s from) refl (λ next. irregular_record n s next at) e
  where
    one : (r : Record) (next : ℕ) (b : Bool) → read_record s from ≡ Is r next → regular_record r ≡ b
        → (irregular_at n s next ≡ some at → (r : Record) × (next : ℕ) × (read_record s at ≡ Is r next) × (regular_record r ≡ false))
        → cond b (irregular_at n s next) (some from) ≡ some at → (r : Record) × (next : ℕ) × (read_record s at ≡ Is r next) × (regular_record r ≡ false)
    one r next true h k ih e = ih e
    one r next false h k ih e = let q : from ≡ at = some-injective from at e in (r, next, rw (← q) h, k)

    go : (f : Field Record) → read_record s from ≡ f
        → ((next : ℕ) → irregular_at n s next ≡ some at → (r : Record) × (next : ℕ) × (read_record s at ≡ Is r next) × (regular_record r ≡ false))
        → on_field f (λ r next. cond (regular_record r) (irregular_at n s next) (some from)) none ≡ some at
        → (r : Record) × (next : ℕ) × (read_record s at ≡ Is r next) × (regular_record r ≡ false)
    go (Is r next) h ih e = one r next (regular_record r) h refl (ih next) e
    go Fault h ih e = absurd (some-ne-none at (sym e))

regular_none : (o : Option ℕ) → ◌≡◌ {A = Result (std.Option Offset) TableRefusal} (Ok (irregular o)) (Ok None) → o ≡ none
regular_none none e = refl
regular_none (some at) e = let z : ◌≡◌ {A = ℕ} 0 1 = cc in absurd (omega arith)

-- of the bytes of a table: it is regular exactly where the answer says so
pub told_regular : (s : List ℕ) (t : Table) (end : ℕ) → read_table s ≡ Fine t end → (check_regular s ≡ Ok None) ↔ (regular t ≡ true)
unfolding check_regular
told_regular s t end e =
    let all = all_regular (shape_of s).count s (shape_of s).records in
    let is : t.records ≡ records_at (shape_of s).count s (shape_of s).records = (table_records s e).these in
    let answer : regular_answer s (read_table s) ≡ Ok (irregular (irregular_at (shape_of s).count s (shape_of s).records)) = ap (regular_answer s) e in (
      λ h. rw is (all.0 (regular_none (irregular_at (shape_of s).count s (shape_of s).records) (sym answer ∙ h))),
      λ h. answer ∙ ap (λ (o : Option ℕ). Ok (irregular o)) (all.1 (rw is at h)),
    )
