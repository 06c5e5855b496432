-- Laws of the finished lattice (`numbers`, specs/Call.antt): its edges may be listed over the line; where it is answered, it keeps within 01's limits. For the theorems of this
-- crate. Assumes nothing.
use Prim.Native.Nat.{ℕ, ◌≤◌}
use mathlib.Core.Path.{◌≡◌, refl, subst}
use mathlib.Core.Bool.{Bool, true, false, cond, ◌||◌}
use mathlib.Core.List.{List, [], ◌∷◌, map-id}
use mathlib.Core.Option.{none}
use native.Mathlib.Omega.{arith}
use lib.ListN.{length}
use lib.Dec.{ltb}
use borrow.Author.Tests.{ltb-false}
use Rattle.text.specs.Text.{Scalars}
use Rattle.table.specs.Table.{Table}
use Rattle.table.specs.Check.{Fine, read_table}
use Rattle.passes.specs.NumEdge.{NumEdge}
use Rattle.passes.specs.Passes.{fifth_list, above_at}
use Rattle.passes.specs.DecimalPasses.{DecimalEdge, whole_edge, decimal_fifth_list, decimal_above_at}
use Rattle.pass_list.specs.StoredEdge.{nil, cons}
use Rattle.edge.specs.Edge.{Edge, listing_bytes}
use Rattle.edge.specs.Legal.{AllLegal, no_edge, one_more_lem}
use Rattle.lattice.specs.Lattice.{has, overfull}
use Rattle.first_stages.proofs.PassedLaws.{fifth_call, after_passes_call, with_edges_call, decimal_fifth_call}
use Rattle.fractions.proofs.NewLaws.{fractions_call}
use Rattle.signs.proofs.CallLaws.{add_signs_call}
use Rattle.separators.proofs.LegalLaws.{separate_legals}
use Rattle.fallback.proofs.DigitLaws.{fallback_legals}
use Rattle.numbers.specs.CallEdge.{Legals, CallEdges}
use Rattle.numbers.specs.Singles.{silenced, without_singles}
use Rattle.numbers.proofs.stages.CallLaws.{inactive_legal, every_map_inactive}
use Rattle.numbers.specs.Listed.{listed_decimal}
use Rattle.numbers.specs.Call.{listing, refused, decimal_passes, with_edges, with_signs, decimal_lattice, after_passes, after_signs, separate_by, lattice_by, finished}

-- ---- the edges of the lattice may be listed, over a line of the scalar values w, at most 256
module _ (s : List ℕ) (t : Table) {end : ℕ} (table : read_table s ≡ Fine t end) (w : List ℕ) (scalars : Scalars w) (few : length w ≤ 256) (below : above_at t w ≡ none)
    (given : List Edge) (gives : CallEdges (length w) given) where
  after_signs_call : CallEdges (length w) (after_signs t w given)
  unfolding after_signs listed_decimal
  after_signs_call =
      subst (λ (fs : List NumEdge). CallEdges (length w) (with_signs t w fs (after_passes t w given))) (map-id (fifth_list t w))
      (add_signs_call whole_edge t w (fifth_list t w) (fractions_call t w (after_passes t w given) few (after_passes_call s t table w scalars few below given gives))
      (fifth_call s t table w scalars few below))

  separated_legals : (b : Bool) → Legals (length w) (separate_by b t w (after_signs t w given))
  unfolding without_singles
  separated_legals true = every_map_inactive inactive_legal (has (silenced t w (after_signs t w given))) _ (separate_legals (after_signs t w given) after_signs_call)
  separated_legals false = separate_legals (after_signs t w given) after_signs_call

  pub lattice_legals : (b : Bool) → Legals (length w) (lattice_by b t w given)
  unfolding lattice_by
  lattice_legals b = fallback_legals w (omega arith) few (separated_legals b)

-- ---- so may those of the call with decimals
module _ (s : List ℕ) (t : Table) {end : ℕ} (table : read_table s ≡ Fine t end) (w : List ℕ) (scalars : Scalars w) (few : length w ≤ 256) (below : decimal_above_at t w ≡ none)
    (given : List Edge) (gives : CallEdges (length w) given) where
  decimal_signs_call : CallEdges (length w) (with_signs t w (decimal_passes t w).fifth (with_edges (decimal_passes t w) given))
  decimal_signs_call =
      add_signs_call (λ (e : DecimalEdge). e) t w (decimal_fifth_list t w)
      (fractions_call t w (with_edges (decimal_passes t w) given) few (with_edges_call true s t table w scalars few below given gives))
      (decimal_fifth_call s t table w scalars few below)

  pub decimal_legals : Legals (length w) (decimal_lattice t w given)
  unfolding decimal_lattice
  decimal_legals = fallback_legals w (omega arith) few (separate_legals _ decimal_signs_call)

-- ---- a lattice that is finished: it keeps within 01's limits, and its bytes are the answer
pub record Ended (es : List Edge) (bytes : List ℕ) : Type 0 where
  pub bytes_are : listing_bytes es ≡ bytes
  pub few : length es ≤ 1024
  pub short : length bytes ≤ 32768

pub finished_ends : (out : ℕ) (es : List Edge) {bytes : List ℕ} → finished out es ≡ listing bytes → Ended es bytes
unfolding overfull
finished_ends out es {bytes} e = go (ltb 1024 (length es)) refl (ltb 32768 (length (listing_bytes es))) refl (ltb out (length (listing_bytes es))) e
  where
    go : (many : Bool) → ltb 1024 (length es) ≡ many → (long : Bool) → ltb 32768 (length (listing_bytes es)) ≡ long → (over : Bool)
        → cond ((many || long) || over) (refused 8 0) (listing (listing_bytes es)) ≡ listing bytes → Ended es bytes
    go true m long l over f = let z : ◌≡◌ {A = ℕ} 0 1 = cc in absurd (omega arith)
    go false m true l over f = let z : ◌≡◌ {A = ℕ} 0 1 = cc in absurd (omega arith)
    go false m false l true f = let z : ◌≡◌ {A = ℕ} 0 1 = cc in absurd (omega arith)
    go false m false l false f =
        let q : listing_bytes es ≡ bytes = cc in
        record { bytes_are = q; few = ltb-false 1024 (length es) m; short = rw (← q) (ltb-false 32768 (length (listing_bytes es)) l) }

pub all_legal : {n : ℕ} (es : List Edge) → Legals n es → AllLegal false n es
all_legal [] nil = no_edge
all_legal (e ∷ es) (cons l ls) = one_more_lem l (all_legal es ls)
