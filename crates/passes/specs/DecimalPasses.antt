-- The passes of the further call (02, S-13), in which D1 joins digits, a point and digits. Between edges without decimals they are the passes of Passes.antt, and fall back to
-- their definitions. Definitions only.
--     DecimalEdge        01's edge, with a count of decimals
--     DecimalChain       01's chain, with the decimals of the edge over it
--     point_at t w p      the place p of the line w holds a point that has no record in the table t
--     next point p c e   the chain c with the edge e joined to it, where pass p does so; `point` says which places hold a point
--     chains_of, after, added, through, added_by   as in Passes.antt
--     decimal_fifth_list t w, decimal_joined_edges t w, decimal_above_at t w   as `fifth_list`, `joined_edges`, `above_at` there
--     Assumes nothing.
use Rattle.std.specs.Prelude.{ℕ, zero, suc, ◌*◌, ◌/◌, ◌%◌, ◌^◌, Bool, true, false, ◌&&◌, cond, List, [], ◌∷◌, ◌++◌, map, leb, ltb, eqb, get_or}
use Rattle.std.proofs.Math.Option
use Rattle.std.proofs.Math.Option.{Option, none, some}
use Rattle.table.specs.Table.{Table, find, is_none}
use Rattle.passes.specs.NumEdge.{NumEdge, placed, or_zero, first_above}
use Rattle.passes.specs.Characters.{first_list}
use Rattle.passes.specs.Chains.{chains}
use Rattle.passes.specs.Passes as passes
use Rattle.passes.specs.Passes.{Pass, D1, G1, G2, G3, G4, Chain, longer, touches, d1_rule, g1_rule, g3_rule, over, joined, five}

pub record DecimalEdge : Type 0 where
  -- its value is what the digits say without the point
  pub edge : NumEdge
  -- how many digits stand after the point; 0 where there is no point
  pub decimals : ℕ

pub record DecimalChain : Type 0 where
  pub chain : Chain
  -- of the edge over the chain
  pub decimals : ℕ

abbrev pub whole_edge : NumEdge → DecimalEdge
whole_edge e = record { edge = e; decimals = 0 }

abbrev pub whole_chain : Chain → DecimalChain
whole_chain c = record { chain = c; decimals = 0 }

abbrev pub edge_over : DecimalChain → DecimalEdge
edge_over c = record { edge = c.chain.edge; decimals = c.decimals }

unfoldable pub begin : DecimalEdge → DecimalChain
begin e = record { chain = passes.begin e.edge; decimals = e.decimals }

-- "one point (U+002E, where that has no record)"
abbrev pub point_character : ℕ
point_character = 0x2E

unfoldable pub point_at : Table → List ℕ → ℕ → Bool
point_at t w p = is_none (find t.records point_character) && eqb (get_or w p 0) point_character

-- ---- D1

-- "orig_txt, txt and value_s keep the point in its place": the edge e and a point behind it, as the left of a join; D1 takes value_s from txt
unfoldable pub with_point : NumEdge → NumEdge
with_point e = placed e.start e.end (e.txt ++ (point_character ∷ [])) (e.orig_txt ++ (point_character ∷ [])) e

-- a digit more after those of an edge with k decimals
abbrev pub one_more : ℕ → ℕ
one_more zero = zero
one_more (suc k) = suc (suc k)

-- the chain c with e joined to it, j the edge over both, k its decimals
abbrev pub longer_decimal : DecimalChain → NumEdge → NumEdge → ℕ → DecimalChain
longer_decimal c e j k = record { chain = longer c.chain e j; decimals = k }

-- "A sixteenth decimal stays outside."
unfoldable pub joins_digit : DecimalChain → NumEdge → Bool
joins_digit c e = touches c.chain e && (ltb c.decimals 15 && d1_rule c.chain e)

-- "at least one digit, one point .. and at least one digit, each touching the next"; a chain that has decimals has its one point
unfoldable pub joins_point : (ℕ → Bool) → DecimalChain → NumEdge → Bool
joins_point point c e = point c.chain.edge.end && (eqb c.decimals 0 && (eqb e.start (suc c.chain.edge.end) && d1_rule c.chain e))

unfoldable pub next_digit : (ℕ → Bool) → DecimalChain → NumEdge → Option DecimalChain
next_digit point c e =
    cond (joins_digit c e) (some (longer_decimal c e (joined D1 c.chain.edge e) (one_more c.decimals)))
    (cond (joins_point point c e) (some (longer_decimal c e (joined D1 (with_point c.chain.edge) e) 1))
    none)

-- ---- the later passes

-- "Of the later passes only G1 and G3 take such an edge, on the left, exactly where their rule does": G1 asks a value ≥ 1, which is the written decimal
unfoldable pub decimal_rule : Pass → ℕ → Chain → NumEdge → Bool
decimal_rule D1 k c e = false
decimal_rule G1 k c e = g1_rule c e && leb (10 ^ k) (or_zero c.edge.value)
decimal_rule G2 k c e = false
decimal_rule G3 k c e = g3_rule c e
decimal_rule G4 k c e = false

-- "the exact product of the written decimal is whole"
abbrev pub digits_product : NumEdge → NumEdge → ℕ
digits_product l r = or_zero l.value * or_zero r.value

unfoldable pub takes_decimal : Pass → DecimalChain → DecimalEdge → Bool
takes_decimal p c e =
    eqb e.decimals 0 && (touches c.chain e.edge && (decimal_rule p c.decimals c.chain e.edge && eqb (digits_product c.chain.edge e.edge % 10 ^ c.decimals) 0))

abbrev pub is_g3 : Pass → Bool
is_g3 D1 = false
is_g3 G1 = false
is_g3 G2 = false
is_g3 G3 = true
is_g3 G4 = false

-- "the result is that product, without decimals"
unfoldable pub decimal_product : Pass → ℕ → NumEdge → NumEdge → NumEdge
decimal_product p k l r = over p l r (digits_product l r / 10 ^ k) r.base (is_g3 p)

abbrev pub both_whole : DecimalChain → DecimalEdge → Bool
both_whole c e = eqb c.decimals 0 && eqb e.decimals 0

unfoldable pub next_later : Pass → DecimalChain → DecimalEdge → Option DecimalChain
next_later p c e =
    cond (both_whole c e) (Option.map whole_chain (passes.next p c.chain e.edge))
    (cond (takes_decimal p c e) (some (whole_chain (longer c.chain e.edge (decimal_product p c.decimals c.chain.edge e.edge))))
    none)

-- ---- the passes; D1's list has no decimals yet
unfoldable pub next : (ℕ → Bool) → Pass → DecimalChain → DecimalEdge → Option DecimalChain
next point D1 c e = next_digit point c e.edge
next point G1 c e = next_later G1 c e
next point G2 c e = next_later G2 c e
next point G3 c e = next_later G3 c e
next point G4 c e = next_later G4 c e

unfoldable pub chains_of : (ℕ → Bool) → Pass → List DecimalEdge → List DecimalChain
chains_of point p l = chains begin (next point p) l

abbrev pub edges_of : List DecimalChain → List DecimalEdge
edges_of cs = map edge_over cs

unfoldable pub joined_of : List DecimalChain → List DecimalEdge
joined_of [] = []
joined_of (c ∷ cs) = cond c.chain.more (edge_over c ∷ joined_of cs) (joined_of cs)

unfoldable pub after : (ℕ → Bool) → Pass → List DecimalEdge → List DecimalEdge
after point p l = edges_of (chains_of point p l)

unfoldable pub added : (ℕ → Bool) → Pass → List DecimalEdge → List DecimalEdge
added point p l = joined_of (chains_of point p l)

unfoldable pub through : (ℕ → Bool) → List Pass → List DecimalEdge → List DecimalEdge
through point [] l = l
through point (p ∷ ps) l = through point ps (after point p l)

unfoldable pub added_by : (ℕ → Bool) → List Pass → List DecimalEdge → List DecimalEdge
added_by point [] l = []
added_by point (p ∷ ps) l = added point p l ++ added_by point ps (after point p l)

-- ---- of a line of the code points w, read with the table t
abbrev pub decimal_first_list : Table → List ℕ → List DecimalEdge
decimal_first_list t w = map whole_edge (first_list t w)

abbrev pub decimal_fifth_list : Table → List ℕ → List DecimalEdge
decimal_fifth_list t w = through (point_at t w) five (decimal_first_list t w)

abbrev pub decimal_joined_edges : Table → List ℕ → List DecimalEdge
decimal_joined_edges t w = added_by (point_at t w) five (decimal_first_list t w)

abbrev pub bare_edges : List DecimalEdge → List NumEdge
bare_edges es = map (λ (e : DecimalEdge). e.edge) es

-- "7 covers the digits too": the value of an edge with decimals is here what its digits say
abbrev pub decimal_above_at : Table → List ℕ → Option ℕ
decimal_above_at t w = first_above (bare_edges (decimal_joined_edges t w))
