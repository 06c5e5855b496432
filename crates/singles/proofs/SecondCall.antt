-- 02, S-12: "The first call stays as it is; the second equals it but for the active bits of those edges", of the answers.
--     Beside line table given a b   the answers a and b of the two calls, side by side
--     second_answer                 so they are, whatever the calls are lent
-- Assumes nothing.
use mathlib.Core.Path.{◌≡◌, refl, ap, ◌∙◌}
use mathlib.Core.Bool.{Bool, true, false, cond, ◌||◌}
use mathlib.Core.List.{List, map}
use mathlib.Core.Option.{Option, none, some}
use Prim.Native.Nat.{ℕ}
use lib.ListN.{length, length-map}
use lib.Dec.{ltb}
use Rattle.text.specs.Text.{chars}
use Rattle.table.specs.Table.{Table}
use Rattle.table.specs.Check.{Fine, read_table}
use Rattle.passes.specs.Passes.{fifth_list, above_at}
use Rattle.edge.specs.Edge.{Edge, listing_bytes}
use Rattle.edge.specs.Layout.{listed}
use Rattle.edge.specs.Check.{check_listing}
use Rattle.lattice.specs.Lattice.{overfull}
use Rattle.numbers.specs.Call.{Answer, listing, refused, finished, unless_above, lattice_by, lattice_of, after_checks, add_numbers, add_numbers_without_singles}
use Rattle.numbers.specs.Singles.{silence}
use Rattle.singles.specs.ByPlace.{quiet_at}
use Rattle.numbers.proofs.ChecksLaws.{answers_related}
use Rattle.singles.proofs.SilenceLaws.{length_silenced}
use Rattle.singles.proofs.GivenLaws.{checked_given}
use Rattle.singles.proofs.SecondLattice.{those, second_lattice}
use Rattle.singles.proofs.ByPlace.{second_by_place}
use Rattle.std.specs.Prelude.{Ok}

-- The second call is refused exactly where the first is, with the same number and place. A listing stands exactly where the first's does, of the same length,
-- and its edges are the first's in their order: those one place long, at the place of an edge of G4's list that may not stand, are inactive
pub data Beside (line table given : List ℕ) : Answer → Answer → Type 0 where
  refusals : {number at : ℕ} → Beside line table given (refused number at) (refused number at)
  listings : (t : Table) (at : ℕ) (es fs : List Edge) → read_table table ≡ Fine t at
      → es ≡ lattice_of t (chars line) (listed given) → fs ≡ map (quiet_at (fifth_list t (chars line))) es → length (listing_bytes fs) ≡ length (listing_bytes es)
      → Beside line table given (listing (listing_bytes es)) (listing (listing_bytes fs))

same_length : (t : Table) (w : List ℕ) (given : List Edge) → length (listing_bytes (lattice_by true t w given)) ≡ length (listing_bytes (lattice_of t w given))
same_length t w given = ap (λ (es : List Edge). length (listing_bytes es)) (second_lattice t w given) ∙ length_silenced (those t w given) (lattice_of t w given)

same_count : (t : Table) (w : List ℕ) (given : List Edge) → length (lattice_by true t w given) ≡ length (lattice_of t w given)
same_count t w given = ap length (second_lattice t w given) ∙ length-map (lattice_of t w given) (silence (those t w given))

both_finished : (line table given : List ℕ) (out : ℕ) (t : Table) (at n : ℕ) → read_table table ≡ Fine t at → check_listing true (length (chars line)) given ≡ Ok n
    → Beside line table given (finished out (lattice_of t (chars line) (listed given))) (finished out (lattice_by true t (chars line) (listed given)))
unfolding overfull
both_finished line table given out t at n e c =
    let es = lattice_of t (chars line) (listed given) in
    let l = same_length t (chars line) (listed given) in
    let k = same_count t (chars line) (listed given) in
    rw (k, l) (go (overfull es || ltb out (length (listing_bytes es))))
  where
    go : (b : Bool) → Beside line table given (cond b (refused 8 0) (listing (listing_bytes (lattice_of t (chars line) (listed given))))) (cond b (refused 8 0) (listing (listing_bytes (lattice_by true t (chars line) (listed given)))))
    go true = refusals
    go false = listings t at _ _ e refl (second_by_place t (chars line) (listed given) (checked_given (length (chars line)) given n c)) (same_length t (chars line) (listed given))

both_stages : (line table given : List ℕ) (out : ℕ) (t : Table) (at n : ℕ) → read_table table ≡ Fine t at → check_listing true (length (chars line)) given ≡ Ok n
    → Beside line table given (after_checks false t (chars line) out (listed given)) (after_checks true t (chars line) out (listed given))
unfolding after_checks
both_stages line table given out t at n e c = go (above_at t (chars line))
  where
    go : (above : Option ℕ)
        → Beside line table given (unless_above above (finished out (lattice_of t (chars line) (listed given)))) (unless_above above (finished out (lattice_by true t (chars line) (listed given))))
    go (some p) = refusals
    go none = both_finished line table given out t at n e c

pub second_answer : (line table given : List ℕ) (work out : ℕ) → Beside line table given (add_numbers line table given work out) (add_numbers_without_singles line table given work out)
second_answer line table given work out =
    answers_related (Beside line table given) (λ number at. refusals) (after_checks false) (after_checks true) line table given out (both_stages line table given out) work
