-- The passes on edges that the plain table does not make, one for each way in which 01's rules can be read: a theorem by computation. What an edge's texts and places
-- are is left out: an edge is given by the character it stands on, value, base and whether it is a large power, and lies one place after the one before it.
--     edges_after p l    value and base of each edge after pass p of the edges l
use Prim.Native.Nat.{ℕ, suc, ◌+◌}
use mathlib.Core.Path.{◌≡◌, refl}
use mathlib.Core.Bool.{Bool, true, false}
use mathlib.Core.List.{List, [], ◌∷◌, map}
use mathlib.Core.Option.{Option, none, some}
use Rattle.table.specs.Table.{Text}
use Rattle.text.specs.Sequence.{encode}
use Rattle.whole.specs.Decimal.{decimal, decimal_within}
use Rattle.whole.specs.Whole.{TOP}
use Rattle.text.specs.Bytes.{same}
use Rattle.passes.specs.NumEdge.{NumEdge, first_above}
use Rattle.passes.specs.Characters.{lowest, gcd, gcd_within}
use Rattle.passes.specs.Chains.{from, chains}
use Rattle.passes.specs.Passes.{Pass, D1, G1, G2, G3, G4, digit_type, cjk, after, chains_of, next, joined, over, over_digits, d1_rule, g1_rule, g2_rule, g3_rule, g4_rule, digit_edge, gap, nearest, begin, longer, retags, counted_value, counted_base, power_of_ten, power_within}

-- an edge without its place: type, code point, value, base, large power
pub record Given : Type 0 where
  pub type : Text
  pub code_point : ℕ
  pub value : Option ℕ
  pub base : Option ℕ
  pub large_power : Bool

-- one of type "digit"; any other; a large power; 零, a gap
abbrev pub digit : ℕ → Option ℕ → Given
digit v b = record { type = digit_type; code_point = 0x41; value = some v; base = b; large_power = false }

abbrev pub other : Option ℕ → Option ℕ → Given
other v b = record { type = []; code_point = 0x41; value = v; base = b; large_power = false }

abbrev pub large : ℕ → ℕ → Given
large v b = record { type = []; code_point = 0x41; value = some v; base = some b; large_power = true }

abbrev pub zero : Option ℕ → Option ℕ → Given
zero v b = record { type = []; code_point = 0x96F6; value = v; base = b; large_power = false }

abbrev pub given_edge : ℕ → Given → NumEdge
given_edge i g = record {
  start = i;
  end = suc i;
  type = g.type;
  txt = encode g.code_point;
  orig_txt = encode g.code_point;
  value = g.value;
  fraction = some (1, 2);
  base = g.base;
  mult = some 1;
  script = some cjk;
  large_power = g.large_power;
  active = true;
  value_s = none;
}

abbrev pub given_edges : ℕ → List Given → List NumEdge
given_edges i [] = []
given_edges i (g ∷ gs) = given_edge i g ∷ given_edges (suc i) gs

pub edges_after : Pass → List Given → List (Option ℕ × Option ℕ)
unfolding after chains_of next joined over over_digits d1_rule g1_rule g2_rule g3_rule g4_rule digit_edge gap nearest begin longer retags counted_value counted_base power_of_ten power_within from chains same encode decimal decimal_within
edges_after p l = map (λ (e : NumEdge). (e.value, e.base)) (after p (given_edges 0 l))

pub cases :
    -- D1 joins digits whatever their bases, and its base is 1
    (edges_after D1 (digit 1 none ∷ digit 2 (some 7) ∷ other (some 3) (some 1) ∷ []) ≡ (some 12, some 1) ∷ (some 3, some 1) ∷ [])
    -- a digit of type "digit" has a value up to 9
    × (edges_after D1 (digit 1 none ∷ digit 10 (some 1) ∷ []) ≡ (some 1, none) ∷ (some 10, some 1) ∷ [])
    -- G1: value 0 is no multiplier, a missing base is none, and a missing right value counts as 0
    × (edges_after G1 (other (some 0) (some 1) ∷ other (some 100) (some 100) ∷ []) ≡ (some 0, some 1) ∷ (some 100, some 100) ∷ [])
    × (edges_after G1 (other (some 2) none ∷ other (some 100) (some 100) ∷ []) ≡ (some 2, none) ∷ (some 100, some 100) ∷ [])
    × (edges_after G1 (other (some 2) (some 1) ∷ other none (some 100) ∷ []) ≡ (some 0, some 100) ∷ [])
    -- G1: the left may be a large power of base 1, the right may not be one
    × (edges_after G1 (large 2 1 ∷ other (some 100) (some 100) ∷ []) ≡ (some 200, some 100) ∷ [])
    × (edges_after G1 (other (some 2) (some 1) ∷ large 100 100 ∷ []) ≡ (some 2, some 1) ∷ (some 100, some 100) ∷ [])
    -- G2: over a gap the next is held against the edge before it
    × (edges_after G2 (other (some 100) (some 100) ∷ zero (some 0) (some 1) ∷ other (some 20) (some 10) ∷ []) ≡ (some 120, some 10) ∷ [])
    -- G2: a gap with value and base is compared like any other, and one without joins always
    × (edges_after G2 (other (some 3) (some 1) ∷ zero (some 0) (some 1) ∷ []) ≡ (some 3, some 1) ∷ (some 0, some 1) ∷ [])
    × (edges_after G2 (other (some 3) (some 1) ∷ zero none (some 1) ∷ []) ≡ (some 3, some 1) ∷ [])
    -- G2: an earlier edge without base counts as base 0
    × (edges_after G2 (other (some 3) none ∷ zero (some 0) (some 1) ∷ []) ≡ (some 3, none) ∷ (some 0, some 1) ∷ [])
    -- G2: after gaps alone the next joins exactly if it is a gap
    × (edges_after G2 (zero (some 0) (some 1) ∷ zero (some 0) (some 1) ∷ other (some 5) (some 1) ∷ []) ≡ (some 0, some 1) ∷ (some 5, some 1) ∷ [])
    -- G2: an edge without value begins no chain
    × (edges_after G2 (other none (some 100) ∷ other (some 5) (some 1) ∷ []) ≡ (none, some 100) ∷ (some 5, some 1) ∷ [])
    -- G3 joins two and no more
    × (edges_after G3 (other (some 2) (some 1) ∷ large 10000 10000 ∷ large 100000000 100000000 ∷ []) ≡ (some 20000, some 10000) ∷ (some 100000000, some 100000000) ∷ [])
    -- G4: the last is the last as counted
    × (edges_after G4 (large 10000 10000 ∷ other (some 5) (some 1) ∷ other (some 6) (some 1) ∷ []) ≡ (some 15600, some 100) ∷ [])
    -- G4: a next edge without base joins where it is retagged, and only there
    × (edges_after G4 (large 10000 10000 ∷ other (some 5) none ∷ []) ≡ (some 15000, some 1000) ∷ [])
    × (edges_after G4 (large 10000 10000 ∷ other (some 20) none ∷ []) ≡ (some 10000, some 10000) ∷ (some 20, none) ∷ [])
    -- G4: a base that is no power of ten, and one below 1000, count no digit
    × (edges_after G4 (other (some 2000) (some 2000) ∷ other (some 5) (some 1) ∷ []) ≡ (some 2005, some 1) ∷ [])
    × (edges_after G4 (other (some 100) (some 100) ∷ other (some 5) (some 1) ∷ []) ≡ (some 105, some 1) ∷ [])
unfolding edges_after
cases = (refl, refl, refl, refl, refl, refl, refl, refl, refl, refl, refl, refl, refl, refl, refl, refl, refl, refl, refl)

-- "A fraction goes to lowest terms, 0/d to 0/1"
pub lowest_cases : (lowest (12, 18) ≡ (2, 3)) × (lowest (1, 2) ≡ (1, 2)) × (lowest (0, 7) ≡ (0, 1)) × (lowest (9007199254740990, 6) ≡ (1501199875790165, 1))
unfolding lowest gcd gcd_within
lowest_cases = (refl, refl, refl, refl)

-- refusal 7: TOP is no value above TOP, and the first above it decides
pub above_cases :
    first_above (given_edge 2 (other none none) ∷ given_edge 3 (other (some TOP) none) ∷ given_edge 4 (other (some (TOP + 1)) none) ∷ given_edge 5 (other (some (TOP + 2)) none) ∷ []) ≡ some 4
unfolding first_above
above_cases = refl
