-- What a call that answers a listing says of its line, and what a call answers that gets past the checks 1 to 6. Laws for theorems on the call, of any table and given edges.
-- In order: answers; a call that answers a listing; a call that gets past the checks 1 to 6.
use Prim.Native.Nat.{ℕ, ◌≤◌}
use mathlib.Core.Path.{◌≡◌, refl, subst}
use mathlib.Core.Bool.{Bool, true, false, cond, ◌||◌}
use mathlib.Core.List.{List, []}
use mathlib.Core.Option.{Option, none, some}
use lib.Dec.{ltb, eqb}
use lib.ListN.{length}
use borrow.Author.Tests.{le-leb, le-ltb}
use Rattle.text.specs.Text.{chars, well_formed}
use Rattle.text.specs.Line.{max_chars}
use Rattle.fields.specs.Fields.{le, le_at}
use Rattle.fields.specs.Part.{part}
use Rattle.table.specs.Table.{Table}
use Rattle.table.specs.Check.{Fine, read_table}
use Rattle.edge.specs.Edge.{Edge, listing_bytes}
use Rattle.edge.specs.Layout.{listed, edges_at}
use Rattle.edge.specs.Check.{check_listing, check_edges}
use Rattle.passes.specs.Passes.{above_at}
use Rattle.lattice.specs.Lattice.{overfull}
use Rattle.numbers.specs.Call.{Answer, listing, refused, answer_by, add_numbers, after_checks, unless_above, finished, lattice_of, no_edges}
use Rattle.numbers.proofs.Passed.{call_passed}
use Rattle.std.specs.Prelude.{Ok}

-- the answer is a listing
abbrev pub Listed : Answer → Type 0
Listed (listing bytes) = Unit {0}
Listed (refused number at) = ⊥

-- the place of refusal 7, where the answer is that
abbrev pub seven_at : Answer → Option ℕ
seven_at (listing bytes) = none
seven_at (refused number at) = cond (eqb number 7) (some at) none

unless_above_lem : (o : Option ℕ) (out : ℕ) (es : List Edge) → seven_at (unless_above o (finished out es)) ≡ o
unless_above_lem none out es = go (overfull es || ltb out (length (listing_bytes es)))
  where
    go : (over : Bool) → seven_at (cond over (refused 8 0) (listing (listing_bytes es))) ≡ none
    go true = refl
    go false = refl
unless_above_lem (some p) out es = refl

none_given : (n : ℕ) → check_listing true n no_edges ≡ Ok 0
unfolding check_listing check_edges le_at le part
none_given n = refl

none_listed : listed no_edges ≡ []
unfolding edges_at le_at le part
none_listed = refl

-- the table's bytes, and the table that they say
module _ (table : List ℕ) (t : Table) (at : ℕ) (reads : read_table table ≡ Fine t at) where
  -- an accepted line is well-formed, and refusal 7 has no place in it
  pub accepted : (line given : List ℕ) (work out : ℕ) → Listed (add_numbers line table given work out) → (well_formed line ≡ true) × (above_at t (chars line) ≡ none)
  accepted line given work out h = go (add_numbers line table given work out) refl h
    where
      go : (a : Answer) → add_numbers line table given work out ≡ a → Listed a → (well_formed line ≡ true) × (above_at t (chars line) ≡ none)
      go (listing bytes) e h =
          let p = call_passed false line table given out bytes work e in
          let r = p.reads in
          let is : p.t ≡ t = cc in
          (p.is_well_formed, subst (λ (x : Table). above_at x (chars line) ≡ none) is p.below)
      go (refused number place) e h = absurd h

  -- ---- a call that gets past the checks of work space, line and table, with no edges given
  pub checked : (line : List ℕ) (work out : ℕ) → 65536 ≤ work → well_formed line ≡ true → length (chars line) ≤ max_chars
      → add_numbers line table no_edges work out ≡ unless_above (above_at t (chars line)) (finished out (lattice_of t (chars line) []))
  unfolding answer_by after_checks
  checked line work out room ok fits =
      rw (le-ltb work 65536 room, ok, le-leb (length (chars line)) max_chars fits, reads, none_given (length (chars line)), none_listed)

  -- it is refused 7 exactly where the passes make a value above TOP
  pub refused_seven : (line : List ℕ) (work out : ℕ) → 65536 ≤ work → well_formed line ≡ true → length (chars line) ≤ max_chars
      → seven_at (add_numbers line table no_edges work out) ≡ above_at t (chars line)
  refused_seven line work out room ok fits = rw (checked line work out room ok fits) (unless_above_lem (above_at t (chars line)) out (lattice_of t (chars line) []))
