-- Demand 3 (00) of the bytes that the call answers, in one statement. For a line of the sixteen characters, read with the plain table's bytes, whatever edges are given:
-- where the call answers a listing, the list after the fifth pass is one edge over the whole line exactly when the line is a numeral (`Settled`); where it is, the listing
-- has an edge of its start, end, type and txt; and with no given edge of that key this one is numeric, and its value field is the f64 that is the reading's value.
-- The words are defined in the specs/ of `grammar` (Reading, plain_bytes), `numbers` (add_numbers, listed_edge), `edge` (listed), `lattice` (has) and in `specs/Keyed.antt`.
--     Answered   what is said, of the line of the characters w, the given edges and the answered bytes
--     answered   it holds where the call answers a listing
-- Assumes nothing.
use Prim.Native.Nat.{ℕ}
use mathlib.Core.Path.{◌≡◌, sym, subst}
use mathlib.Core.Bool.{true, false}
use mathlib.Core.List.{List, map}
use mathlib.Core.Option.{some}
use Rattle.text.specs.Text.{chars}
use Rattle.edge.specs.Edge.{Edge, f64_bits}
use Rattle.edge.specs.Layout.{listed}
use Rattle.lattice.specs.Lattice.{has}
use Rattle.passes.specs.NumEdge.{NumEdge}
use Rattle.grammar.specs.Plain.{Char, code_point, plain}
use Rattle.grammar.specs.PlainBytes.{plain_bytes}
use Rattle.grammar.specs.Grammar.{Reading, division_value}
use Rattle.grammar.proofs.PlainTable.{plain_table}
use Rattle.grammar.proofs.Demand3.{OneEdge, Settled}
use Rattle.numbers.specs.Listed.{listed_edge}
use Rattle.numbers.specs.Call.{listing, lattice_of, add_numbers}
use Rattle.numbers.proofs.Demand3.{Listed, call_settled}
use Rattle.finished.specs.Finished.{Bytes}
use Rattle.finished.specs.Keyed.{keyed, HoldsValue}
use Rattle.finished.proofs.Readable.{finished_of}
use Rattle.finished.proofs.KeyedLaws.{picks_has}
use Rattle.finished.proofs.OneEdgeLaws.{valued_quiet, lattice_picks, one_there, one_valued}

pub record Answered (line given bytes : List ℕ) (w : List Char) : Type 0 where
  pub settled : Settled line w
  pub there : (e : NumEdge) → OneEdge line e → has (listed bytes) (listed_edge e) ≡ true
  pub value : (e : NumEdge) → OneEdge line e → has (listed given) (listed_edge e) ≡ false → (r : Reading w)
      → (x : Edge) × (keyed (listed bytes) (listed_edge e) ≡ some x) × HoldsValue x (division_value r.division)

pub answered : (line given : List ℕ) (work out : ℕ) (bytes : List ℕ) (w : List Char) → chars line ≡ map code_point w → Bytes given
    → add_numbers line plain_bytes given work out ≡ listing bytes → Answered line given bytes w
unfolding f64_bits
answered line given work out bytes w characters b answer =
    let f = finished_of line plain_bytes given work out bytes plain_table b answer in
    let settled = call_settled line given work out w characters (subst Listed (sym answer) tt) in
    record {
      settled = settled;
      there = λ e one. rw f.edges (picks_has (lattice_of plain (chars line) (listed given)) (listed_edge e)
          (lattice_picks (λ x u. tt) (chars line) (listed given) (listed_edge e) (one_there line w characters e one (listed given))));
      value = λ e one free r.
          let c = settled.same_value e one r in
          let (x, k, v) = lattice_picks (valued_quiet (division_value r.division)) (chars line) (listed given) (listed_edge e)
          (one_valued line w characters e one (listed given) free (division_value r.division) c.value) in
          (x, rw f.edges k, record { numeric = v.0; is = v.1; bits = f64_bits (division_value r.division); value = v.2; float = c.float });
    }
