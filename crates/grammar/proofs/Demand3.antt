-- Demand 3 (00). For every line of the sixteen characters, read with the plain table, that is not refused: the list after the fifth pass is one edge over the
-- whole line exactly when the line is a numeral; then any two readings are the same division, and the edge's f64 is, as a whole number, the reading's value.
-- The words are defined in `specs/Grammar.antt` (Reading), `specs/Plain.antt` (plain), and in the specs/ of `passes` (fifth_list, above_at),
-- `text` (well_formed, chars) and `whole` (ofNat). It is the theorem on regular tables (`table_grammar`, proofs/RegularDemand3.antt: OneEdgeBy, Carries) at the plain table,
-- whose grammar is 01's (`proofs/PlainInstance.antt`); of the passes with the plain table only that the values of a line that is not refused 7 are up to TOP is asked.
-- Assumes nothing.
use Prim.Native.Nat.{ℕ}
use mathlib.Core.Path.{◌≡◌, refl, sym, ap, ◌∙◌, subst}
use mathlib.Core.Logic.{◌↔◌}
use mathlib.Core.Bool.{true}
use mathlib.Core.List.{List, map}
use mathlib.Core.Option.{none, some}
use Rattle.text.specs.Bytes.{same}
use Rattle.text.specs.Text.{Scalars, well_formed, chars, encodes}
use Rattle.text.proofs.TextLaws.{encodes_chars, encodes_well_formed}
use Rattle.table.specs.Table.{Table}
use Rattle.passes.specs.NumEdge.{NumEdge, first_above}
use Rattle.passes.specs.Passes.{through, added_by, five, fifth_list, above_at}
use Rattle.table_grammar.specs.Grammar as Of
use Rattle.table_grammar.specs.TableGrammar.{kinds}
use Rattle.table_grammar.specs.TableGrammar as Tables
use Rattle.table_grammar.proofs.Readings.{same_division}
use Rattle.table_grammar.proofs.RegularDemand3.{SettledTable, regular_demand3, one_edge_where_valued}
pub use Rattle.table_grammar.proofs.RegularDemand3.{OneEdgeBy, Carries}
use Rattle.grammar.specs.Plain.{Char, code_point, plain, plain_records, plain_record}
use Rattle.grammar.specs.Grammar.{plainly, Reading, division_value}
use Rattle.grammar.proofs.PlainEdges.{plain_edges, plain_line_lem, plain_scalars}
use Rattle.grammar.proofs.PlainWithin.{one_within}
use Rattle.grammar.proofs.PlainInstance.{from_plain, to_plain, same_plain}

-- ---- what is said, of any table t and the characters that `code` gives for the sixteen

-- the line, as it is lent: well-formed UTF-8 whose characters are those of w, each of them for one of the sixteen
pub record Spells (code : Char → ℕ) (line : List ℕ) (w : List Char) : Type 0 where
  pub is_well_formed : well_formed line ≡ true
  pub characters : chars line ≡ map code w

pub record SettledBy (t : Table) (line : List ℕ) (w : List Char) : Type 0 where
  pub one_edge : ((e : NumEdge) × OneEdgeBy t line e) ↔ Reading w
  pub one_division : (x y : Reading w) → x.division ≡ y.division
  pub same_value : (e : NumEdge) → OneEdgeBy t line e → (r : Reading w) → Carries e (division_value r.division)

-- every w has such a line: its characters in UTF-8
pub spelled : (code : Char → ℕ) (w : List Char) → Scalars (map code w) → Spells code (encodes (map code w)) w
spelled code w h = record { is_well_formed = encodes_well_formed (map code w) h; characters = encodes_chars (map code w) h }

-- ---- the same of the plain table
abbrev pub IsLine : List ℕ → List Char → Type 0
IsLine line w = Spells code_point line w

abbrev pub OneEdge : List ℕ → NumEdge → Type 0
OneEdge line e = OneEdgeBy plain line e

abbrev pub Settled : List ℕ → List Char → Type 0
Settled line w = SettledBy plain line w

pub line_of : (w : List Char) → IsLine (encodes (map code_point w)) w
line_of w = spelled code_point w (plain_scalars w)

-- ---- why it holds: the plain table is regular, and its grammar is 01's
pub plain_settled : (line : List ℕ) → SettledTable plain line
unfolding plain plain_records plain_record same
plain_settled = regular_demand3 plain refl

pub plain_one_edge : (line : List ℕ) → ((e : NumEdge) × OneEdgeBy plain line e) ↔ Tables.Reading plain (chars line)
unfolding plain plain_records plain_record same
plain_one_edge = one_edge_where_valued plain refl refl

-- any reading of the line by the table has the value of any by 01's grammar
by_characters : {w : List Char} (cs : List ℕ) → cs ≡ map code_point w → (x : Tables.Reading plain cs) (r : Reading w) → Of.division_value kinds x.division ≡ division_value r.division
by_characters {w} cs e = subst (λ (cs : List ℕ). (x : Tables.Reading plain cs) (r : Reading w) → Of.division_value kinds x.division ≡ division_value r.division) (sym e) (λ x r. (same_plain w r x).1)

pub demand3 : (line : List ℕ) (w : List Char) → IsLine line w → above_at plain (chars line) ≡ none → Settled line w
demand3 line w is fine = record {
  one_edge = (
    λ h. to_plain w (subst (Tables.Reading plain) is.characters ((plain_one_edge line).0 h)),
    λ r. (plain_one_edge line).1 (by_table_lem r),
  );
  one_division = same_division plainly w;
  same_value = carries;
}
  where
    by_table_lem : Reading w → Tables.Reading plain (chars line)
    by_table_lem r = subst (Tables.Reading plain) (sym is.characters) (from_plain w r)

    same_list : fifth_list plain (chars line) ≡ through five (plain_edges 0 w)
    same_list = ap (through five) (plain_line_lem (chars line) w is.characters)

    same_added : above_at plain (chars line) ≡ first_above (added_by five (plain_edges 0 w))
    same_added = ap (λ (l : List NumEdge). first_above (added_by five l)) (plain_line_lem (chars line) w is.characters)

    carries : (e : NumEdge) → OneEdge line e → (r : Reading w) → Carries e (division_value r.division)
    carries e o r =
        let v : Of.division_value kinds (by_table_lem r).division ≡ division_value r.division = by_characters (chars line) is.characters (by_table_lem r) r in
        let n : e.value ≡ some (division_value r.division) = (plain_settled line).same_value e o (by_table_lem r) ∙ ap (λ (k : ℕ). some k) v in
        subst (Carries e) v ((plain_settled line).same_float e o (by_table_lem r) (rw v (one_within w e _ (sym same_added ∙ fine) (sym same_list ∙ o.list) n)))
