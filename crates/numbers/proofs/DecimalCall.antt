-- 02, S-13: "For lines without a point the call agrees with the first", and for lines with a point that has a record: the finished lattice, and the whole answer with every refusal.
-- In order: the passes; the lattice; the answer. Assumes nothing.
use Prim.Native.Nat.{ℕ}
use mathlib.Core.Path.{◌≡◌, refl, ap, ◌∙◌}
use mathlib.Core.Bool.{true, false, cond}
use mathlib.Core.List.{List, [], ◌∷◌, ◌++◌, map, map-append}
use mathlib.Core.Option.{some}
use lib.Dec.{eqb, ltb}
use lib.ListN.{length}
use Rattle.text.specs.Text.{chars}
use Rattle.text.specs.Line.{line_check}
use Rattle.table.specs.Table.{Table, Record, find}
use Rattle.table.specs.Check.{Checked, Fine, Refused, read_table}
use Rattle.edge.specs.Edge.{Edge}
use Rattle.edge.specs.Layout.{listed}
use Rattle.edge.specs.Check.{check_listing}
use Rattle.passes.specs.NumEdge.{NumEdge}
use Rattle.passes.specs.Characters.{first_list}
use Rattle.passes.specs.Passes.{fifth_list, joined_edges}
use Rattle.passes.specs.DecimalPasses.{DecimalEdge, whole_edge, point_character, bare_edges, decimal_joined_edges}
use Rattle.passes.proofs.ChainsAlike.{Each}
use Rattle.passes.proofs.DecimalAgrees.{NoPoint, without_point, with_record, fifth_agrees, joined_agrees, above_agrees, bare_whole}
use Rattle.numbers.specs.Listed.{listed_edge, listed_decimal}
use Rattle.numbers.specs.Ready.{work_size}
use Rattle.numbers.specs.Call.{FivePasses, whole_passes, decimal_passes, lattice_from, lattice_by, lattice_of, after_passes, after_signs, decimal_lattice, refused, after_checks, decimal_after_checks, after_edges_check, after_table_check, after_line_check, answer_by, add_numbers, add_numbers_with_decimals, out_after}
use Rattle.std.specs.Prelude.{Result, Ok, Err}
use Rattle.text.specs.declared.LineRefusal.{LineRefusal}
use Rattle.text.specs.declared.Offset.{Offset}

-- ---- the passes
listed_whole : (l : List NumEdge) → map listed_decimal (map whole_edge l) ≡ map listed_edge l
unfolding listed_decimal
listed_whole [] = refl
listed_whole (e ∷ l) = ap {B = List Edge} (λ r. listed_edge e ∷ r) (listed_whole l)

edges_whole : (l : List NumEdge) (m : List DecimalEdge) (n : List NumEdge) → m ≡ map whole_edge n → map listed_decimal (map whole_edge l ++ m) ≡ map listed_edge (l ++ n)
edges_whole l m n e = rw (e, ← (map-append whole_edge l n)) (listed_whole (l ++ n))

module _ (t : Table) (w : List ℕ) (no-point : NoPoint t w) where
  -- what they give is what the first call's give
  pub passes_agree : decimal_passes t w ≡ whole_passes t w
  passes_agree =
      same (edges_whole (first_list t w) (decimal_joined_edges t w) (joined_edges t w) (joined_agrees t w no-point))
      (ap bare_edges (fifth_agrees t w no-point) ∙ bare_whole (fifth_list t w)) (above_agrees t w no-point)
    where
      same : {p q : FivePasses} → p.edges ≡ q.edges → p.fifth ≡ q.fifth → p.above ≡ q.above → p ≡ q
      same e f g = rw (e, f, g)

  -- ---- the lattice
  pub lattice_agrees : (given : List Edge) → decimal_lattice t w given ≡ lattice_of t w given
  unfolding decimal_lattice lattice_by after_signs after_passes
  lattice_agrees given = ap (λ (p : FivePasses). lattice_from p t w given) passes_agree

  -- refusals 7 and 8, and the listing
  pub stages_agree : (out : ℕ) (given : List Edge) → decimal_after_checks t w out given ≡ after_checks false t w out given
  unfolding decimal_after_checks after_checks
  stages_agree out given = rw (above_agrees t w no-point, lattice_agrees given)

-- ---- the answer
module _ (line table given : List ℕ) (work out : ℕ) where
  -- with a table in which no place of the line holds a point without a record
  abbrev pub NoPointBy : Checked Table → Type 0
  NoPointBy (Refused number at) = Unit {0}
  NoPointBy (Fine t at) = NoPoint t (chars line)

  edges_agree : (t : Table) → NoPoint t (chars line) → (c : Result ℕ Offset)
      → after_edges_check decimal_after_checks t (chars line) out given c ≡ after_edges_check (after_checks false) t (chars line) out given c
  edges_agree t h (Err at) = refl
  edges_agree t h (Ok n) = stages_agree t (chars line) h out (listed given)

  table_agrees : (c : Checked Table) → NoPointBy c → after_table_check decimal_after_checks (chars line) out given c ≡ after_table_check (after_checks false) (chars line) out given c
  table_agrees (Refused number at) h = refl
  table_agrees (Fine t at) h = edges_agree t h (check_listing true (length (chars line)) given)

  line_agrees : NoPointBy (read_table table) → (c : Result ℕ LineRefusal) → after_line_check decimal_after_checks line table given out c ≡ after_line_check (after_checks false) line table given out c
  line_agrees h (Err (LineRefusal.IllFormed at)) = refl
  line_agrees h (Err (LineRefusal.TooLong at)) = refl
  line_agrees h (Ok n) = table_agrees (read_table table) h

  agrees : NoPointBy (read_table table) → add_numbers_with_decimals line table given work out ≡ add_numbers line table given work out
  unfolding answer_by
  agrees h = ap (cond (ltb work work_size) (refused 1 0)) (line_agrees h (line_check line))

  -- "For lines without a point the call agrees with the first": the answer, so that the output holds the same after it
  pub call_agrees : Each (λ c. eqb c point_character ≡ false) (chars line) → add_numbers_with_decimals line table given work out ≡ add_numbers line table given work out
  call_agrees h = agrees (go (read_table table))
    where
      go : (c : Checked Table) → NoPointBy c
      go (Refused number at) = tt
      go (Fine t at) = without_point t (chars line) h

  -- "where that has no record": where the point has one, the call agrees with the first on every line
  pub call_agrees_by_record : (t : Table) (at : ℕ) → read_table table ≡ Fine t at → (r : Record) → find t.records point_character ≡ some r
      → add_numbers_with_decimals line table given work out ≡ add_numbers line table given work out
  call_agrees_by_record t at reads r found = agrees (rw reads (with_record t (chars line) r found))

  pub output_agrees : Each (λ c. eqb c point_character ≡ false) (chars line) → (before : List ℕ)
      → out_after before (add_numbers_with_decimals line table given work out) ≡ out_after before (add_numbers line table given work out)
  output_agrees h before = ap (out_after before) (call_agrees h)
