-- The answer by the rows of a line (`finished` of `specs/Worn.antt`), for the theorems: which answers there are, and how many bytes rows have.
use Prim.Native.Nat.{ℕ, ◌*◌, ◌≤◌}
use mathlib.Core.Path.{◌≡◌, refl}
use mathlib.Core.Bool.{Bool, true, false, cond}
use mathlib.Core.List.{List, [], ◌∷◌, ◌++◌, Memᴰ}
use native.Mathlib.Omega.{arith}
use lib.Dec.{ltb}
use lib.ListN.{length, length-append}
use borrow.Author.Tests.{le-leb, le-ltb}
use Rattle.text.specs.Text.{chars}
use Rattle.whole.specs.Whole.{TOP}
use Rattle.grammar.specs.Plain.{Char}
use Rattle.numeral.proofs.OneNumber.{Accepted}
use Rattle.sheet_rows.specs.Rows.{row_bytes, rows_bytes}
use Rattle.sheet_rows.proofs.RowLaws.{length_row_top}
use Rattle.worn.specs.Worn.{mark, worn_rows, worn_bytes, unless_none, finished, worn_codes, worn}
use Rattle.worn.proofs.PartLaws.{codes, parts_has}
use Rattle.std.specs.Prelude.{Err}
use Rattle.worn.specs.declared.WornRefusal.TheVariants as WornRefusal

pub accepted_worn : (line : List ℕ) → Accepted line → (room : ℕ) → worn line room ≡ worn_codes (chars line) room
unfolding worn
accepted_worn line a room = rw (a.is_well_formed, le-leb (length (chars line)) 256 a.not_long)

pub between_worn : (x y : List Char) (room : ℕ) → worn_codes (codes x ++ (mark ∷ codes y)) room ≡ finished (worn_rows x y) room
unfolding worn_codes
between_worn x y room = rw (parts_has x y)

module _ (rs : List (Char × ℕ)) (room : ℕ) where
  pub finished_marked : finished rs room ≡ Err WornRefusal.NotOneMark → ⊥
  unfolding finished
  finished_marked = go (ltb room (length (worn_bytes rs))) rs
    where
      go : (b : Bool) (rs : List (Char × ℕ)) → cond b (Err WornRefusal.TooShort) (unless_none rs) ≡ Err WornRefusal.NotOneMark → ⊥
      go true rs e = let z : ◌≡◌ {A = ℕ} 0 1 = cc in omega arith
      go false [] e = let z : ◌≡◌ {A = ℕ} 0 1 = cc in omega arith
      go false (r ∷ rs) e = let z : ◌≡◌ {A = ℕ} 0 1 = cc in omega arith

  pub finished_none : finished rs room ≡ Err WornRefusal.NoneServes → rs ≡ []
  unfolding finished
  finished_none = go (ltb room (length (worn_bytes rs))) rs
    where
      go : (b : Bool) (rs : List (Char × ℕ)) → cond b (Err WornRefusal.TooShort) (unless_none rs) ≡ Err WornRefusal.NoneServes → rs ≡ []
      go true rs e = absurd cc
      go false [] e = refl
      go false (r ∷ rs) e = absurd cc

-- for no rows no output is too short
pub none_finished : (room : ℕ) → finished [] room ≡ Err WornRefusal.NoneServes
unfolding finished worn_bytes rows_bytes
none_finished room = rw (le-ltb room 0 (omega arith))

-- a row has at most 21 bytes
pub rows_size : (rs : List (Char × ℕ)) → ((c : Char) (v : ℕ) → Memᴰ (c, v) rs → v ≤ TOP) → length (worn_bytes rs) ≤ 21 * length rs
unfolding worn_bytes rows_bytes
rows_size [] h = omega arith
rows_size (r ∷ rs) h =
    let row = length_row_top (r.0 ∷ [], r.1) (h r.0 r.1 (Memᴰ.head refl)) in
    let rest = rows_size rs (λ c v m. h c v (Memᴰ.tail m)) in
    omega (arith, length-append (row_bytes (r.0 ∷ [], r.1)) (worn_bytes rs), row, rest)
