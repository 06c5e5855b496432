-- A finished listing is readable. Where the call answers a listing: the check that the reading calls make accepts its bytes over the same line, with the count of
-- `lattice_of`, and the edges that it lists are `lattice_of` of the table, the line and the given edges. So no reading call refuses it with 6, and every one speaks of these edges.
-- The words are defined in the specs/ of `numbers` (add_numbers, lattice_of), `edge` (check_listing, listed), `table` (read_table), `paths` (read_check) and in `specs/Finished.antt`.
--     finished_by      this, for the table that the table's bytes are read as, of the first call and the one of 02's S-12
--     decimal_finished   the same of the call with decimals (02, S-13)
--     finished_read    of the first call
--     finished_of      the same, for a table that is known
--     no_edges_bytes   a listing without edges consists of bytes
-- Assumes nothing.
use Prim.Native.Nat.{ℕ, zero, suc, ◌^◌, ◌≤◌, ◌<◌}
use mathlib.Core.Path.{◌≡◌, sym, ◌∙◌, subst}
use mathlib.Core.Bool.{Bool, true, false}
use mathlib.Core.List.{List}
use mathlib.Core.Option.{Option}
use native.Mathlib.Omega.{arith}
use lib.ListN.{length}
use borrow.Author.Tests.{le-leb}
use Rattle.text.specs.Text.{chars, well_formed}
use Rattle.text.specs.Line.{line_check, max_chars}
use Rattle.text.proofs.TextLaws.{chars_scalars}
use Rattle.table.specs.Table.{Table}
use Rattle.table.specs.Check.{Fine, read_table}
use Rattle.edge.specs.Edge.{Edge}
use Rattle.edge.specs.Layout.{listed}
use Rattle.edge.proofs.theorems.Theorems.{listing_read_back, listing_accepted}
use Rattle.first_stages.proofs.given.GivenLaws.{given_call}
use Rattle.numbers.specs.Call.{listing, after_checks, answer_by, add_numbers, add_numbers_with_decimals, no_edges}
use Rattle.numbers.specs.CallEdge.{Legals}
use Rattle.numbers.proofs.Passed.{Passed, call_passed, decimal_passed}
use Rattle.paths.specs.Reading.{read_check}
use Rattle.paths.proofs.theorems.Theorems.{read_edges}
use Rattle.finished.specs.Finished.{Bytes, decimal_edges_of, FinishedAs, FinishedBy, Finished}
use Rattle.finished.proofs.LatticeLaws.{lattice_legals, decimal_legals, finished_ends, all_legal}
use Rattle.std.specs.Prelude.{Ok}

line_fine : (line : List ℕ) → well_formed line ≡ true → length (chars line) ≤ 256 → line_check line ≡ Ok (length (chars line))
line_fine line a b = rw (a, le-leb (length (chars line)) max_chars b)

passed_read : {above : Table → List ℕ → Option ℕ} {lattice : Table → List ℕ → List Edge → List Edge} (line table given : List ℕ) (out : ℕ) (bytes : List ℕ)
    (p : Passed above lattice line table given out bytes) → let es = lattice p.t (chars line) (listed given) in Legals (length (chars line)) es → FinishedAs es line bytes
unfolding read_check
passed_read {lattice = lattice} line table given out bytes p legal =
    let es = lattice p.t (chars line) (listed given) in
    let n = length (chars line) in
    let ends = finished_ends out es p.ends in
    let k : length es < 2 ^ 16 = omega (arith, ends.few) in
    let accepted = rw ends.bytes_are at (listing_accepted false n es (all_legal es legal) k) in
    let edges = rw ends.bytes_are at (listing_read_back false n es (all_legal es legal) k) in
    let readable : read_check line bytes ≡ Ok (n, length es) = rw (line_fine line p.is_well_formed p.few, accepted) in
    record {
      bytes_are = sym ends.bytes_are;
      accepted = accepted;
      edges = edges;
      readable = readable;
      looked_at = read_edges line bytes readable ∙ edges;
      few = ends.few;
      short = ends.short;
      legal = legal;
    }

-- of the first call, and the one without singles
pub finished_by : (b : Bool) (line table given : List ℕ) (work out : ℕ) (bytes : List ℕ) → Bytes given → answer_by (after_checks b) line table given work out ≡ listing bytes
    → (t : Table) × (end : ℕ) × (read_table table ≡ Fine t end) × FinishedBy b t line given bytes
finished_by b line table given work out bytes h e =
    let p = call_passed b line table given out bytes work e in
    let gives = given_call (length (chars line)) given h p.count p.gives in
    let legal = lattice_legals table p.t p.reads (chars line) (chars_scalars line) p.few p.below (listed given) gives b in
    (p.t, p.end, p.reads, passed_read line table given out bytes p legal)

-- of the call with decimals
pub decimal_finished : (line table given : List ℕ) (work out : ℕ) (bytes : List ℕ) → Bytes given → add_numbers_with_decimals line table given work out ≡ listing bytes
    → (t : Table) × (end : ℕ) × (read_table table ≡ Fine t end) × FinishedAs (decimal_edges_of t line given) line bytes
decimal_finished line table given work out bytes h e =
    let p = decimal_passed line table given out bytes work e in
    let gives = given_call (length (chars line)) given h p.count p.gives in
    let legal = decimal_legals table p.t p.reads (chars line) (chars_scalars line) p.few p.below (listed given) gives in
    (p.t, p.end, p.reads, passed_read line table given out bytes p legal)

pub finished_read : (line table given : List ℕ) (work out : ℕ) (bytes : List ℕ) → Bytes given → add_numbers line table given work out ≡ listing bytes
    → (t : Table) × (end : ℕ) × (read_table table ≡ Fine t end) × Finished t line given bytes
finished_read = finished_by false

pub finished_of : (line table given : List ℕ) (work out : ℕ) (bytes : List ℕ) {t : Table} {end : ℕ} → read_table table ≡ Fine t end → Bytes given
    → add_numbers line table given work out ≡ listing bytes → Finished t line given bytes
finished_of line table given work out bytes {t} reads b e =
    let (u, k, h, f) = finished_read line table given work out bytes b e in
    let q : u ≡ t = cc in
    subst (λ (x : Table). Finished x line given bytes) q f

pub no_edges_bytes : Bytes no_edges
no_edges_bytes zero = omega arith
no_edges_bytes (suc zero) = omega arith
no_edges_bytes (suc (suc j)) = omega arith
