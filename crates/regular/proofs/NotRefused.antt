-- Where a line is not refused 7, the value of the one edge is at most TOP, so that its f64 is exact: for the bytes of any regular table. This is the last part of demand 3 as the
-- call has it: the check of the table refuses values above TOP (01, cause 5), and refusal 7 values that the passes make.
-- In order: the values of a table's records; the edges of a line; the theorem. Assumes nothing.
use Prim.Native.Nat.{ℕ, suc, ◌≤◌}
use mathlib.Core.Path.{◌≡◌, refl, sym}
use mathlib.Core.Bool.{Bool, true, false, cond}
use mathlib.Core.List.{List, [], ◌∷◌}
use mathlib.Core.Option.{Option, none, some, some-ne-none, some-injective}
use lib.Dec.{ltb, eqb}
use borrow.Author.Tests.{le-ltb}
use Rattle.text.specs.Text.{chars}
use Rattle.table.specs.Table.{Record, Table, find}
use Rattle.table.specs.Layout.{numbers_in}
use Rattle.table.specs.Check.{Fine, all_of, small, legal_code_point, legal_texts, legal_numbers, legal_record, read_table}
use Rattle.whole.specs.Whole.{TOP}
use Rattle.passes.specs.NumEdge.{NumEdge, or_zero, above, first_above}
use Rattle.passes.specs.Characters.{char_edge, with_edge, char_edges}
use Rattle.passes.specs.Passes.{five, above_at}
use Rattle.passes.proofs.ChainsAlike.{Each}
use Rattle.passes.proofs.AboveLaws.{first_above_cons, first_above_head, above_le, through_within}
use Rattle.table_grammar.proofs.Tests.{true_le, and_left, and_right}
use Rattle.table_grammar.specs.Kinds.{regular}
use Rattle.table_grammar.specs.Grammar.{division_value}
use Rattle.table_grammar.specs.TableGrammar.{kinds, Reading}
use Rattle.regular.proofs.CheckLaws.{Legal, table_records}
use Rattle.table_grammar.proofs.RegularDemand3.{OneEdgeBy, Carries, regular_demand3}

-- ---- the values of a table's records
legal_small : (r : Record) → Legal r → all_of small r.value ≡ true
unfolding legal_record legal_numbers
legal_small r (least, h) =
    let n : legal_numbers (numbers_in r) ≡ true = and_left _ _ (and_right (legal_texts r) _ (and_right (legal_code_point least r.code_point) _ h)) in
    and_left _ _ (and_left _ _ (and_left _ _ n))

found_legal : (rs : List Record) (c : ℕ) (r : Record) → Each Legal rs → find rs c ≡ some r → Legal r
unfolding find
found_legal [] c r h e = absurd (some-ne-none r (sym e))
found_legal (q ∷ rs) c r h e = go (eqb q.code_point c) (found_legal rs c r h.1) e
  where
    go : (b : Bool) → (find rs c ≡ some r → Legal r) → cond b (some q) (find rs c) ≡ some r → Legal r
    go true ih e = rw (← (some-injective q r e)) h.0
    go false ih e = ih e

-- ---- the edges of a line
value_within : (o : Option ℕ) → all_of small o ≡ true → ltb TOP (or_zero o) ≡ false
unfolding all_of
value_within none h = refl
value_within (some v) h = le-ltb TOP v (true_le v TOP h)

within_char : (i c : ℕ) (r : Record) → all_of small r.value ≡ true → above (char_edge i c r) ≡ false
unfolding char_edge
within_char i c r h = value_within r.value h

line_within : (rs : List Record) → Each Legal rs → (w : List ℕ) (i : ℕ) → first_above (char_edges rs i w) ≡ none
unfolding char_edges first_above
line_within rs l [] i = refl
line_within rs l (c ∷ w) i = go (find rs c) refl (line_within rs l w (suc i))
  where
    go : (o : Option Record) → find rs c ≡ o → first_above (char_edges rs (suc i) w) ≡ none → first_above (with_edge i c o (char_edges rs (suc i) w)) ≡ none
    go none e ih = ih
    go (some r) e ih = first_above_cons (char_edge i c r) (char_edges rs (suc i) w) (within_char i c r (legal_small r (found_legal rs c r l e))) ih

-- ---- the theorem
pub not_refused : (s : List ℕ) (t : Table) (end : ℕ) → read_table s ≡ Fine t end → regular t ≡ true → (line : List ℕ) → above_at t (chars line) ≡ none
    → (e : NumEdge) → OneEdgeBy t line e → (r : Reading t (chars line)) → Carries e (division_value kinds r.division)
not_refused s t end read g line fine e o r =
    let value : e.value ≡ some (division_value kinds r.division) = (regular_demand3 t g line).same_value e o r in
    let all : first_above (char_edges t.records 0 (chars line)) ≡ none = line_within t.records (table_records s read).legal (chars line) 0 in
    let one : or_zero e.value ≤ TOP = above_le e (first_above_head e [] (rw o.list at (through_within five (char_edges t.records 0 (chars line)) all fine))) in
    (regular_demand3 t g line).same_float e o r (rw value at one)
