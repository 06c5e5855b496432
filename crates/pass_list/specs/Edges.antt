-- Which edge a stored edge of the pass list stands for: what isn't stored is in the line and in the table. w are the line's code points, t the table's bytes.
-- Definitions only.
--     between w a b     the bytes of the characters of w from place a to place b
--     of_record t at f d what f takes from the record of t at an offset; d where there is none
--     digits_text k n v  the digits v over n places, with a point before the last k of them where k is not 0
--     edge_of w t x, chain_of w t c                 the edge that x stands for, the chain that c stands for
--     decimal_edge_of w t x, decimal_chain_of w t c   the same, with the decimals
--     WellMade point w t x  the marks of x say what the texts of its edge say, its absent numbers are 0, and its points are those of `point`, by their places
--     points_of b w      the places of the line w that hold a point, where b says that points count
--     no_point           the points of the first call
-- Assumes nothing.
use Rattle.std.specs.Prelude.{◌≡◌, Bool, true, false, cond, ◌&&◌, List, [], ◌∷◌, ◌++◌, ℕ, zero, suc, ◌+◌, ◌-◌, ◌≤◌, ◌<◌, length, take, drop, get_or, eqb}
use Rattle.std.proofs.Math.Option
use Rattle.std.proofs.Math.Option.{Option, none, some, map}
use Rattle.fields.specs.Part.{part}
use Rattle.whole.specs.Decimal.{decimal, padded}
use Rattle.text.specs.Text.{encodes}
use Rattle.table.specs.Table.{Text, Record}
use Rattle.table.specs.Layout.{on_field, read_record}
use Rattle.table.specs.Answers.{optionally}
use Rattle.passes.specs.NumEdge.{NumEdge}
use Rattle.passes.specs.Characters.{lowest}
use Rattle.passes.specs.Passes as passes
use Rattle.passes.specs.Passes.{pass_name, D1, G1, G2, G3, G4, digit_edge, is_script, cjk}
use Rattle.passes.specs.DecimalPasses.{DecimalEdge, DecimalChain, point_character}
use Rattle.pass_list.specs.StoredEdge.{StoredEdge}
use Rattle.pass_list.specs.StoredPass.{StoredChain}
use Rattle.pass_list.specs.Kind.{kind_number}

unfoldable pub between : List ℕ → ℕ → ℕ → Text
between w a b = encodes (take (b - a) (drop a w))

abbrev pub of_record : {A : Type 0} → List ℕ → ℕ → (Record → A) → A → A
of_record t at f d = on_field (read_record t at) (λ r next. f r) d

-- the name of the pass that joined an edge of this kind
abbrev pub kind_name : ℕ → Text
kind_name k = cond (eqb k 1) (pass_name D1) (cond (eqb k 2) (pass_name G1) (cond (eqb k 3) (pass_name G2) (cond (eqb k 4) (pass_name G3) (pass_name G4))))

-- "orig_txt, txt and value_s keep the point in its place" (02, S-13)
abbrev pub pointed : ℕ → Text → Text
pointed k ds = take (length ds - k) ds ++ (point_character ∷ drop (length ds - k) ds)

abbrev pub digits_text : ℕ → ℕ → ℕ → Text
digits_text zero n v = padded n v
digits_text (suc k) n v = pointed (suc k) (padded (n - 1) v)

abbrev pub row_text : StoredEdge → Text
row_text x = digits_text x.decimals (x.end - x.start) x.value

-- an edge joined by D1 has its digits for txt and value_s, the others their value; a character's is rom, or else the character
abbrev pub txt_of : List ℕ → List ℕ → StoredEdge → Text
txt_of w t x =
    cond (eqb (kind_number x.kind) 0) (of_record t x.record_offset (λ r. Option.get_or r.rom (between w x.start x.end)) [])
    (cond (eqb (kind_number x.kind) 1) (row_text x) (decimal x.value))

unfoldable pub edge_of : List ℕ → List ℕ → StoredEdge → NumEdge
edge_of w t x = record {
  start = x.start;
  end = x.end;
  type = cond (eqb (kind_number x.kind) 0) (of_record t x.record_offset (λ r. r.type) []) (kind_name (kind_number x.kind));
  txt = txt_of w t x;
  orig_txt = between w x.start x.end;
  value = optionally x.has_value x.value;
  fraction = cond (eqb (kind_number x.kind) 0) (of_record t x.record_offset (λ r. map lowest r.fraction) none) none;
  base = optionally x.has_base x.base;
  mult = optionally x.has_mult x.mult;
  script = optionally x.has_script (part t x.script_offset x.script_len);
  large_power = x.large_power;
  active = true;
  value_s = cond (eqb (kind_number x.kind) 1) (some (row_text x)) none;
}

unfoldable pub chain_of : List ℕ → List ℕ → StoredChain → passes.Chain
chain_of w t c = record { edge = edge_of w t c.edge; more = c.more; near = optionally c.has_near c.near }

abbrev pub decimal_edge_of : List ℕ → List ℕ → StoredEdge → DecimalEdge
decimal_edge_of w t x = record { edge = edge_of w t x; decimals = x.decimals }

abbrev pub decimal_chain_of : List ℕ → List ℕ → StoredChain → DecimalChain
decimal_chain_of w t c = record { chain = chain_of w t c; decimals = c.edge.decimals }

pub record WellMade (point : ℕ → Bool) (w t : List ℕ) (x : StoredEdge) : Type 0 where
  pub ordered : x.start < x.end
  pub inside : x.end ≤ length w
  pub value_absent : x.has_value ≡ false → x.value ≡ 0
  pub base_absent : x.has_base ≡ false → x.base ≡ 0
  pub digit : digit_edge (edge_of w t x) ≡ x.digit
  pub gap : passes.gap (edge_of w t x) ≡ x.gap
  pub script : is_script (edge_of w t x).script cjk ≡ x.cjk
  -- a digit's txt is that digit, as the table's check has it
  pub digit_text : x.digit ≡ true → (edge_of w t x).txt ≡ padded (x.end - x.start) x.value
  pub digit_whole : x.digit ≡ true → x.decimals ≡ 0
  -- "A sixteenth decimal stays outside" (02, S-13), and before the point stands a digit
  pub few_decimals : x.decimals ≤ 15
  pub decimals_inside : 0 < x.decimals → x.start + suc (suc x.decimals) ≤ x.end
  pub mark : x.point ≡ point x.end
  -- before its decimals stands a point
  pub point_before : 0 < x.decimals → point (x.end - suc x.decimals) ≡ true

-- "one point (U+002E, where that has no record)": b says that it has none, and that the call has decimals
abbrev pub points_of : Bool → List ℕ → ℕ → Bool
points_of b w p = b && eqb (get_or w p 0) point_character

-- "For lines without a point the call agrees with the first": no edge has decimals then
abbrev pub no_point : ℕ → Bool
no_point p = false
