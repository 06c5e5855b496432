-- What an answered listing says of each check of the call (`specs/Call.antt`): the line and the table were read, the given edges accepted, no joined value is above TOP, and the
-- bytes are the finished lattice's. Assumes nothing.
--     Passed above lattice line table given out bytes   all of this, for a call that answered these bytes: `above` says where it refuses 7, `lattice` what it finishes
--     call_passed                           it holds where the first call, or the one without singles, answers a listing
--     decimal_passed                        and where the call with decimals does
use Prim.Native.Nat.{ℕ, ◌≤◌}
use mathlib.Core.Path.{◌≡◌, refl, sym, ◌∙◌}
use mathlib.Core.Bool.{Bool, true, false, cond}
use mathlib.Core.List.{List}
use mathlib.Core.Option.{Option, none, some}
use native.Mathlib.Omega.{arith}
use lib.ListN.{length}
use lib.Dec.{ltb, leb}
use borrow.Author.Tests.{leb-true}
use Rattle.text.specs.declared.Offset.{Offset}
use Rattle.text.specs.Text.{chars, well_formed, offset_of, ill_at}
use Rattle.text.specs.Line.{line_check, max_chars}
use Rattle.table.specs.Table.{Table}
use Rattle.table.specs.Check.{Checked, Fine, Refused, read_table}
use Rattle.edge.specs.Edge.{Edge}
use Rattle.edge.specs.Layout.{listed}
use Rattle.edge.specs.Check.{check_listing}
use Rattle.passes.specs.Passes.{above_at}
use Rattle.passes.specs.DecimalPasses.{decimal_above_at}
use Rattle.numbers.specs.Call.{listing, refused, lattice_by, decimal_lattice, finished, unless_above, Stages, after_checks, decimal_after_checks, add_numbers_with_decimals, after_edges_check, after_table_check, after_line_check, answer_by}
use Rattle.std.specs.Prelude.{Result, Ok, Err}
use Rattle.text.specs.declared.LineRefusal.TheVariants as LineRefusal

-- what the stages refuse 7 by, and the lattice that they finish
pub record Passed (above : Table → List ℕ → Option ℕ) (lattice : Table → List ℕ → List Edge → List Edge) (line table given : List ℕ) (out : ℕ) (bytes : List ℕ) : Type 0 where
  pub is_well_formed : well_formed line ≡ true
  pub few : length (chars line) ≤ 256
  pub t : Table
  pub end : ℕ
  pub reads : read_table table ≡ Fine t end
  pub count : ℕ
  pub gives : check_listing true (length (chars line)) given ≡ Ok count
  pub below : above t (chars line) ≡ none
  pub ends : finished out (lattice t (chars line) (listed given)) ≡ listing bytes

module _ (above : Table → List ℕ → Option ℕ) (lattice : Table → List ℕ → List Edge → List Edge) (stages : Stages)
    (are : (t : Table) (w : List ℕ) (out : ℕ) (given : List Edge) → stages t w out given ≡ unless_above (above t w) (finished out (lattice t w given)))
    (line table given : List ℕ) (out : ℕ) (bytes : List ℕ) where
  abbrev w : List ℕ
  w = chars line

  abbrev Told : Type 0
  Told = Passed above lattice line table given out bytes

  module _ (is_well_formed : well_formed line ≡ true) (few : length (chars line) ≤ 256) where
    module _ (t : Table) (end : ℕ) (reads : read_table table ≡ Fine t end) where
      all_passed : (count : ℕ) → check_listing true (length w) given ≡ Ok count → (o : Option ℕ) → above t w ≡ o
          → unless_above o (finished out (lattice t w (listed given))) ≡ listing bytes → Told
      all_passed count gives none below e =
          record { is_well_formed = is_well_formed; few = few; t = t; end = end; reads = reads; count = count; gives = gives; below = below; ends = e }
      all_passed count gives (some p) below e = let z : ◌≡◌ {A = ℕ} 0 1 = cc in absurd (omega arith)

      given_passed : (c : Result ℕ Offset) → check_listing true (length w) given ≡ c → after_edges_check stages t w out given c ≡ listing bytes → Told
      given_passed (Ok count) gives e = all_passed count gives (above t w) refl (sym (are t w out (listed given)) ∙ e)
      given_passed (Err at) gives e = let z : ◌≡◌ {A = ℕ} 0 1 = cc in absurd (omega arith)

    table_passed : (c : Checked Table) → read_table table ≡ c → after_table_check stages w out given c ≡ listing bytes → Told
    table_passed (Fine t end) reads e = given_passed t end reads (check_listing true (length w) given) refl e
    table_passed (Refused number at) reads e = let z : ◌≡◌ {A = ℕ} 0 1 = cc in absurd (omega arith)

  line_passed : (n : ℕ) (at long : Offset) (ok fits : Bool) → well_formed line ≡ ok → leb (length w) max_chars ≡ fits
      → after_line_check stages line table given out (cond ok (cond fits (Ok n) (Err (LineRefusal.TooLong long))) (Err (LineRefusal.IllFormed at))) ≡ listing bytes → Told
  line_passed n at long true true a f e = table_passed a (leb-true _ _ f) (read_table table) refl e
  line_passed n at long true false a f e = let z : ◌≡◌ {A = ℕ} 0 1 = cc in absurd (omega arith)
  line_passed n at long false fits a f e = let z : ◌≡◌ {A = ℕ} 0 1 = cc in absurd (omega arith)

  stages_passed : (work : ℕ) → answer_by stages line table given work out ≡ listing bytes → Told
  unfolding answer_by
  stages_passed work e = go (ltb work 65536) e
    where
      go : (short : Bool) → cond short (refused 1 0) (after_line_check stages line table given out (line_check line)) ≡ listing bytes → Told
      go true e = let z : ◌≡◌ {A = ℕ} 0 1 = cc in absurd (omega arith)
      go false e = line_passed (length w) (record { 0 = ill_at line }) (record { 0 = offset_of line max_chars }) (well_formed line) (leb (length w) max_chars) refl refl e

pub call_passed : (b : Bool) (line table given : List ℕ) (out : ℕ) (bytes : List ℕ) (work : ℕ) → answer_by (after_checks b) line table given work out ≡ listing bytes
    → Passed above_at (lattice_by b) line table given out bytes
unfolding after_checks
call_passed b = stages_passed above_at (lattice_by b) (after_checks b) (λ t w out given. refl)

-- 02, S-13
pub decimal_passed : (line table given : List ℕ) (out : ℕ) (bytes : List ℕ) (work : ℕ) → add_numbers_with_decimals line table given work out ≡ listing bytes
    → Passed decimal_above_at decimal_lattice line table given out bytes
unfolding decimal_after_checks
decimal_passed = stages_passed decimal_above_at decimal_lattice decimal_after_checks (λ t w out given. refl)
