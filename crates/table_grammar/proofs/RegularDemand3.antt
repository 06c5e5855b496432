-- Demand 3 (00) for every regular table and every line, also with characters that have no record: the list after the fifth pass is one valued edge over the whole line
-- exactly where the line is a numeral by that table's grammar; any two readings are the same division; the value is the reading's, as an f64 too where it is at most TOP.
-- The words are defined in `specs/Kinds.antt` (regular), `specs/TableGrammar.antt` (Reading), and in the specs/ of `passes` (fifth_list), `text` (chars) and `whole` (TOP).
-- Assumes nothing.
use Prim.Native.Nat.{ℕ, ◌≤◌}
use mathlib.Core.Path.{◌≡◌}
use mathlib.Core.Logic.{◌↔◌}
use mathlib.Core.Bool.{true, false}
use mathlib.Core.List.{List, [], ◌∷◌}
use mathlib.Core.Option.{some}
use native.Mathlib.Omega.{arith}
use lib.ListN.{length}
use lib.Ieee.{binary64, of_bits, to_bits}
use lib.Ieee.Exact.{HasValue}
use Rattle.text.specs.Text.{chars}
use Rattle.table.specs.Table.{Table}
use Rattle.whole.specs.Whole.{TOP, of_nat}
use Rattle.whole.proofs.WholeLaws.{of_nat-value, of_nat-bits_back}
use Rattle.passes.specs.NumEdge.{NumEdge, has}
use Rattle.passes.specs.Passes.{five, fifth_list}
use Rattle.table_grammar.specs.Grammar.{division_value}
use Rattle.table_grammar.specs.Kinds.{all_valued, regular}
use Rattle.table_grammar.specs.TableGrammar.{kinds, Reading}
use Rattle.table_grammar.proofs.Settled.{is_read, is_one, same_division}
use Rattle.table_grammar.proofs.Others.{spelled, one_valued}

-- ---- what is said, of a table t and a line

-- the list after the fifth pass is the one edge e, over the whole line
pub record OneEdgeBy (t : Table) (line : List ℕ) (e : NumEdge) : Type 0 where
  pub list : fifth_list t (chars line) ≡ e ∷ []
  pub from_start : e.start ≡ 0
  pub to_end : e.end ≡ length (chars line)

-- the value of e is n, and the f64 with the bits that the listing has for it is the whole number n
pub record Carries (e : NumEdge) (n : ℕ) : Type 0 where
  pub value : e.value ≡ some n
  pub within : n ≤ TOP
  pub float : HasValue (of_bits binary64 (to_bits binary64 (of_nat n))) false n 1

-- one valued edge over the whole line
pub record OneValued (t : Table) (line : List ℕ) (e : NumEdge) : Type 0 where
  pub one : OneEdgeBy t line e
  pub valued : has e.value ≡ true

pub record SettledTable (t : Table) (line : List ℕ) : Type 0 where
  pub one_edge : ((e : NumEdge) × OneValued t line e) ↔ Reading t (chars line)
  pub one_division : (x y : Reading t (chars line)) → x.division ≡ y.division
  pub same_value : (e : NumEdge) → OneEdgeBy t line e → (r : Reading t (chars line)) → e.value ≡ some (division_value kinds r.division)
  pub same_float : (e : NumEdge) → OneEdgeBy t line e → (r : Reading t (chars line)) → division_value kinds r.division ≤ TOP → Carries e (division_value kinds r.division)

-- ---- why it holds
pub regular_demand3 : (t : Table) → regular t ≡ true → (line : List ℕ) → SettledTable t line
regular_demand3 t g line = record {
  one_edge = (
    λ (e, o). let (s, y) = spelled five t.records (chars line) e g o.one.list o.one.from_start o.one.to_end o.valued in (is_read t (chars line) s e y o.one.list).0,
    λ r. let (e, h, c) = is_one t (chars line) r in (e, record { one = record { list = h; from_start = c.start; to_end = c.end }; valued = rw c.value }),
  );
  one_division = same_division t (chars line);
  same_value = value_of;
  same_float = λ e o r within. record { value = value_of e o r; within = within; float = rw of_nat-bits_back (of_nat-value _ (omega arith)) };
}
  where
    value_of : (e : NumEdge) → OneEdgeBy t line e → (r : Reading t (chars line)) → e.value ≡ some (division_value kinds r.division)
    value_of e o r =
        let (x, h, c) = is_one t (chars line) r in
        let l : fifth_list t (chars line) ≡ e ∷ [] = o.list in
        let q : e ≡ x = cc in
        rw q c.value

-- where each record has a value, one edge is valued: then the first part is demand 3's, word for word
pub one_edge_where_valued : (t : Table) → regular t ≡ true → all_valued t.records ≡ true → (line : List ℕ) → ((e : NumEdge) × OneEdgeBy t line e) ↔ Reading t (chars line)
one_edge_where_valued t g v line = (
  λ (e, o). (regular_demand3 t g line).one_edge.0 (e, record { one = o; valued = one_valued five t.records (chars line) e v o.list }),
  λ r. let (e, o) = (regular_demand3 t g line).one_edge.1 r in (e, o.one),
)
