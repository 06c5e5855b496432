-- The whole call (01, "What a call is lent", "The rest of the call"): the finished lattice, and the checks 1 to 8 in their order. Definitions only.
-- The call of 02, S-12, is the same with one stage more, the one of S-13 the same after other passes.
--     FivePasses              what the five passes of a call give; whole_passes t w: those of the first call; decimal_passes t w: with decimals (S-13); passes_by d t w: of either
--     lattice_by b t w given   the finished lattice of the line w (code points) with table t and given edges; b says whether some singles may not stand
--     lattice_of t w given     that of the first call
--     decimal_lattice t w given   that of the call with decimals
--     Answer                  a listing's bytes, or a refusal with its place or offset
--     add_numbers ..           the answer for a line, a table, an edge list, the lengths of work space and output
--     add_numbers_without_singles ..   that of the second call
--     add_numbers_with_decimals ..     that of the call with decimals
--     no_edges                 the edge list without an edge
--     out_after out a          what the output holds after the answer a, where it held out before
--     Assumes nothing.
use Rattle.std.specs.Prelude.{ℕ, Bool, true, false, cond, ◌||◌, List, [], ◌∷◌, ◌++◌, map, length, drop, ltb, Result, Ok, Err}
use Rattle.std.proofs.Math.Option.{Option, none, some}
use Rattle.text.specs.Text.{chars}
use Rattle.text.specs.Line.{line_check, line_refusal, line_at}
use Rattle.table.specs.Table.{Table}
use Rattle.table.specs.Check.{Checked, Fine, Refused, read_table, cause_number}
use Rattle.passes.specs.NumEdge.{NumEdge}
use Rattle.passes.specs.Characters.{first_list}
use Rattle.passes.specs.Passes.{fifth_list, joined_edges, above_at}
use Rattle.passes.specs.DecimalPasses.{bare_edges, decimal_first_list, decimal_fifth_list, decimal_joined_edges, decimal_above_at}
use Rattle.edge.specs.Edge.{Edge, listing_bytes}
use Rattle.edge.specs.Layout.{listed}
use Rattle.edge.specs.Check.{check_listing, listing_refusal, listing_place}
use Rattle.lattice.specs.Lattice.{add_all, overfull}
use Rattle.numbers.specs.Listed.{listed_edge, listed_decimal}
use Rattle.numbers.specs.Fractions.{fractions}
use Rattle.numbers.specs.Signs.{signs}
use Rattle.numbers.specs.Separators.{separate}
use Rattle.numbers.specs.Singles.{without_singles}
use Rattle.numbers.specs.Fallback.{fallback}
use Rattle.numbers.specs.Ready.{work_size}
use Rattle.text.specs.declared.LineRefusal.{LineRefusal}
use Rattle.text.specs.declared.Offset.{Offset}

pub record FivePasses : Type 0 where
  -- the characters, then the joined edges of D1 to G4, as they are listed
  pub edges : List Edge
  -- the list after G4
  pub fifth : List NumEdge
  -- the place of refusal 7
  pub above : Option ℕ

abbrev pub whole_passes : Table → List ℕ → FivePasses
whole_passes t w = record { edges = map listed_edge (first_list t w ++ joined_edges t w); fifth = fifth_list t w; above = above_at t w }

-- 02, S-13
abbrev pub decimal_passes : Table → List ℕ → FivePasses
decimal_passes t w = record {
  edges = map listed_decimal (decimal_first_list t w ++ decimal_joined_edges t w);
  fifth = bare_edges (decimal_fifth_list t w);
  above = decimal_above_at t w;
}

-- d: the call has decimals
abbrev pub passes_by : Bool → Table → List ℕ → FivePasses
passes_by d t w = cond d (decimal_passes t w) (whole_passes t w)

-- "order of first addition, given edges first"
abbrev pub with_edges : FivePasses → List Edge → List Edge
with_edges p given = add_all (add_all [] given) p.edges

-- fractions and percentages, then G6
abbrev pub with_signs : Table → List ℕ → List NumEdge → List Edge → List Edge
with_signs t w fifth es = add_all (fractions t w es) (signs t w fifth)

-- F1, or what is in its place, then the fallback
abbrev pub with_fallback : (List Edge → List Edge) → List ℕ → List Edge → List Edge
with_fallback separates w es = let ds = separates es in add_all ds (fallback ds 0 w)

unfoldable pub after_passes : Table → List ℕ → List Edge → List Edge
after_passes t w given = with_edges (whole_passes t w) given

unfoldable pub after_signs : Table → List ℕ → List Edge → List Edge
after_signs t w given = with_signs t w (fifth_list t w) (after_passes t w given)

-- F1; "A second call does what the Rust's comment intends .. after F1 and before the fallback" (02, S-12)
abbrev pub separate_by : Bool → Table → List ℕ → List Edge → List Edge
separate_by b t w es = cond b (without_singles t w es) (separate es)

unfoldable pub lattice_by : Bool → Table → List ℕ → List Edge → List Edge
lattice_by b t w given = with_fallback (separate_by b t w) w (after_signs t w given)

abbrev pub lattice_of : Table → List ℕ → List Edge → List Edge
lattice_of = lattice_by false

-- 02, S-13: the further call's passes, and the first call's stages after them
abbrev pub lattice_from : FivePasses → Table → List ℕ → List Edge → List Edge
lattice_from p t w given = with_fallback separate w (with_signs t w p.fifth (with_edges p given))

unfoldable pub decimal_lattice : Table → List ℕ → List Edge → List Edge
decimal_lattice t w given = lattice_from (decimal_passes t w) t w given

-- ---- the checks
pub data Answer : Type 0 where
  listing : List ℕ → Answer
  refused : ℕ → ℕ → Answer

-- 8: "finished listing over 1,024 edges, over 32,768 bytes, or longer than the output"
abbrev pub finished : ℕ → List Edge → Answer
finished out es = cond (overfull es || ltb out (length (listing_bytes es))) (refused 8 0) (listing (listing_bytes es))

-- 7: "a value above TOP made by D1 to G4", at the "start of the first such edge, in pass order"
abbrev pub unless_above : Option ℕ → Answer → Answer
unless_above (some p) a = refused 7 p
unless_above none a = a

-- what a call makes of a table, a line, the output's length and given edges that passed the checks 1 to 6
abbrev pub Stages : Type 0
Stages = Table → List ℕ → ℕ → List Edge → Answer

unfoldable pub after_checks : Bool → Stages
after_checks b t w out given = unless_above (above_at t w) (finished out (lattice_by b t w given))

-- "7 covers the digits too" (02, S-13)
unfoldable pub decimal_after_checks : Stages
decimal_after_checks t w out given = unless_above (decimal_passes t w).above (finished out (decimal_lattice t w given))

-- "no given edges"
abbrev pub no_edges : List ℕ
no_edges = 0 ∷ 0 ∷ []

-- 6: the given edges
abbrev pub after_edges_check : Stages → Table → List ℕ → ℕ → List ℕ → Result ℕ Offset → Answer
after_edges_check stages t w out given (Err at) = refused (listing_refusal (Err at)) (listing_place (Err at))
after_edges_check stages t w out given (Ok n) = stages t w out (listed given)

-- 4 and 5: the table
abbrev pub after_table_check : Stages → List ℕ → ℕ → List ℕ → Checked Table → Answer
after_table_check stages w out given (Refused cause at) = refused (cause_number cause) at
after_table_check stages w out given (Fine t at) = after_edges_check stages t w out given (check_listing true (length w) given)

-- 2 and 3: the line
abbrev pub after_line_check : Stages → List ℕ → List ℕ → List ℕ → ℕ → Result ℕ LineRefusal → Answer
after_line_check stages line table given out (Err r) = refused (line_refusal (Err r)) (line_at (Err r))
after_line_check stages line table given out (Ok n) = after_table_check stages (chars line) out given (read_table table)

-- 1: "work space under 65,536 bytes"
unfoldable pub answer_by : Stages → List ℕ → List ℕ → List ℕ → ℕ → ℕ → Answer
answer_by stages line table given work out = cond (ltb work work_size) (refused 1 0) (after_line_check stages line table given out (line_check line))

-- "The first call stays as it is"
abbrev pub add_numbers : List ℕ → List ℕ → List ℕ → ℕ → ℕ → Answer
add_numbers = answer_by (after_checks false)

abbrev pub add_numbers_without_singles : List ℕ → List ℕ → List ℕ → ℕ → ℕ → Answer
add_numbers_without_singles = answer_by (after_checks true)

-- "In a further call, D1 joins at least one digit, one point .. and at least one digit" (02, S-13)
abbrev pub add_numbers_with_decimals : List ℕ → List ℕ → List ℕ → ℕ → ℕ → Answer
add_numbers_with_decimals = answer_by decimal_after_checks

-- "the output buffer holds what it held before"; behind a listing too
abbrev pub out_after : List ℕ → Answer → List ℕ
out_after out (listing bytes) = bytes ++ drop (length bytes) out
out_after out (refused number at) = out
