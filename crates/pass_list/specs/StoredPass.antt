-- The five passes on stored edges: the definitions of `passes` (specs/DecimalPasses.antt) with each text test replaced by its mark. `pass_list::in_turn` (proofs/in_turn/Simulation.antt)
-- shows that they are the same passes; where no edge has decimals or a point at its end, they are those of specs/Passes.antt there. Definitions only.
--     StoredChain        a chain as far as it goes
--     counted p l e    the next edge e after l as it counts in pass p
--     meets p c e      the chain c and the edge e touch; in D1 a point may stand between them
--     rule p c e       pass p joins e, as it counts, to the chain c, where they meet
--     decimals_fit p l e  pass p joins e, as it counts, to l by the decimals of both
--     over p l e v k   the edge over l and e, of value v with k decimals
--     taken c o e      the chain c with e taken in, where o is the edge over both
--     next p c e       the chain c with e joined to it, where pass p does so
--     chains_of p l, after p l, added p l, first_above l   as in `passes`
-- Assumes nothing.
use Rattle.std.specs.Prelude.{ℕ, suc, ◌+◌, ◌*◌, ◌/◌, ◌%◌, ◌^◌, Bool, true, false, ◌&&◌, ◌||◌, not, cond, List, [], ◌∷◌, map, leb, ltb, eqb}
use Rattle.std.proofs.Math.Option.{Option, none, some}
use Rattle.whole.specs.Whole.{TOP}
use Rattle.passes.specs.Chains.{chains}
use Rattle.passes.specs.Passes.{Pass, D1, G1, G2, G3, G4, power_of_ten}
use Rattle.passes.specs.DecimalPasses.{one_more}
use Rattle.pass_list.specs.StoredEdge.{StoredEdge}
use Rattle.pass_list.specs.Kind.{kind_number, joined_by}

pub record StoredChain : Type 0 where
  pub edge : StoredEdge
  pub more : Bool
  -- the base of the chain's nearest edge, from its end, that isn't a gap, where there is one
  pub has_near : Bool
  pub near : ℕ

unfoldable pub begin : StoredEdge → StoredChain
begin e = record { edge = e; more = false; has_near = not e.gap; near = cond e.gap 0 e.base }

abbrev pub touches : StoredChain → StoredEdge → Bool
touches c e = eqb c.edge.end e.start

-- "one point": a point stands between them, and the chain has gone over none
abbrev pub over_point : StoredChain → StoredEdge → Bool
over_point c e = c.edge.point && (eqb c.edge.decimals 0 && eqb e.start (suc c.edge.end))

-- "A sixteenth decimal stays outside"
abbrev pub meets : Pass → StoredChain → StoredEdge → Bool
meets D1 c e = (touches c e && ltb c.edge.decimals 15) || over_point c e
meets G1 c e = touches c e
meets G2 c e = touches c e
meets G3 c e = touches c e
meets G4 c e = touches c e

-- ---- the rules
unfoldable pub d1_rule : StoredChain → StoredEdge → Bool
d1_rule c e = (c.more || c.edge.digit) && e.digit

unfoldable pub g1_rule : StoredChain → StoredEdge → Bool
g1_rule c e = not c.more && eqb c.edge.base 1 && leb 1 c.edge.value && ltb 1 e.base && not e.large_power

-- all that the comparison needs is there
abbrev pub comparable : StoredChain → StoredEdge → Bool
comparable c e = c.has_near && e.has_value && e.has_base

unfoldable pub g2_rule : StoredChain → StoredEdge → Bool
g2_rule c e =
    c.edge.has_value && not c.edge.large_power && not e.large_power
    && ((comparable c e && (ltb e.value c.near && ltb e.base c.near)) || (not (comparable c e) && e.gap))

unfoldable pub g3_rule : StoredChain → StoredEdge → Bool
g3_rule c e = not c.more && c.edge.has_value && not c.edge.large_power && e.has_value && e.large_power

unfoldable pub g4_rule : StoredChain → StoredEdge → Bool
g4_rule c e = c.edge.has_value && e.has_value && e.has_base && ltb e.value c.edge.base && ltb e.base c.edge.base

abbrev pub rule : Pass → StoredChain → StoredEdge → Bool
rule D1 = d1_rule
rule G1 = g1_rule
rule G2 = g2_rule
rule G3 = g3_rule
rule G4 = g4_rule

-- ---- decimals
abbrev pub both_whole : StoredEdge → StoredEdge → Bool
both_whole l e = eqb l.decimals 0 && eqb e.decimals 0

-- "the exact product of the written decimal is whole"
abbrev pub whole_product : StoredEdge → StoredEdge → Bool
whole_product l e = eqb (l.value * e.value % 10 ^ l.decimals) 0

-- "Of the later passes only G1 and G3 take such an edge, on the left": G1 asks a value ≥ 1, which is the written decimal
abbrev pub takes_decimal : Pass → StoredEdge → StoredEdge → Bool
takes_decimal D1 l e = false
takes_decimal G1 l e = leb (10 ^ l.decimals) l.value && whole_product l e
takes_decimal G2 l e = false
takes_decimal G3 l e = whole_product l e
takes_decimal G4 l e = false

abbrev pub decimals_fit : Pass → StoredEdge → StoredEdge → Bool
decimals_fit D1 l e = true
decimals_fit G1 l e = both_whole l e || (eqb e.decimals 0 && takes_decimal G1 l e)
decimals_fit G2 l e = both_whole l e || (eqb e.decimals 0 && takes_decimal G2 l e)
decimals_fit G3 l e = both_whole l e || (eqb e.decimals 0 && takes_decimal G3 l e)
decimals_fit G4 l e = both_whole l e || (eqb e.decimals 0 && takes_decimal G4 l e)

-- ---- the next edge as it counts
abbrev pub retaggable : StoredEdge → StoredEdge → Bool
retaggable l e = l.cjk && leb 1000 l.base && eqb e.end (e.start + 1) && leb 1 e.value && leb e.value 9

unfoldable pub retags : StoredEdge → StoredEdge → Bool
retags l e = retaggable l e && power_of_ten l.base

-- the edge e with value v and base b
unfoldable pub with_numbers : StoredEdge → ℕ → ℕ → StoredEdge
with_numbers e v b = record {
  start = e.start;
  end = e.end;
  kind = e.kind;
  record_offset = e.record_offset;
  value = v;
  base = b;
  mult = e.mult;
  script_offset = e.script_offset;
  script_len = e.script_len;
  has_value = true;
  has_base = true;
  has_mult = e.has_mult;
  has_script = e.has_script;
  large_power = e.large_power;
  digit = e.digit;
  gap = e.gap;
  cjk = e.cjk;
  decimals = e.decimals;
  point = e.point;
}

abbrev pub retagged : StoredEdge → StoredEdge → StoredEdge
retagged l e = with_numbers e (e.value * (l.base / 10)) (l.base / 10)

unfoldable pub counted : Pass → StoredEdge → StoredEdge → StoredEdge
counted D1 l e = with_numbers e e.value 1
counted G1 l e = e
counted G2 l e = e
counted G3 l e = e
counted G4 l e = cond (retags l e) (retagged l e) e

-- ---- the joined edges
-- the left value has k decimals
abbrev pub value_of : Pass → ℕ → ℕ → ℕ → ℕ
value_of D1 k m n = 10 * m + n
value_of G1 k m n = m * n / 10 ^ k
value_of G2 k m n = m + n
value_of G3 k m n = m * n / 10 ^ k
value_of G4 k m n = m + n

-- the number that is stored for it
abbrev pub kind_of : Pass → ℕ
kind_of p = kind_number (joined_by p)

unfoldable pub over : Pass → StoredEdge → StoredEdge → ℕ → ℕ → StoredEdge
over p l e v k = record {
  start = l.start;
  end = e.end;
  kind = joined_by p;
  record_offset = 0;
  value = v;
  base = e.base;
  mult = 0;
  script_offset = e.script_offset;
  script_len = e.script_len;
  has_value = true;
  has_base = e.has_base;
  has_mult = false;
  has_script = e.has_script;
  large_power = eqb (kind_of p) 4;
  digit = false;
  gap = false;
  cjk = e.cjk;
  decimals = k;
  point = e.point;
}

-- ---- the passes
-- the value over the chain c and the edge e
abbrev pub joined_value : Pass → StoredChain → StoredEdge → ℕ
joined_value p c e = value_of p c.edge.decimals c.edge.value (counted p c.edge e).value

-- the decimals over both: D1 alone makes any
abbrev pub joined_decimals : Pass → StoredChain → StoredEdge → ℕ
joined_decimals D1 c e = cond (touches c e) (one_more c.edge.decimals) 1
joined_decimals G1 c e = 0
joined_decimals G2 c e = 0
joined_decimals G3 c e = 0
joined_decimals G4 c e = 0

unfoldable pub joins : Pass → StoredChain → StoredEdge → Bool
joins p c e = meets p c e && (rule p c (counted p c.edge e) && decimals_fit p c.edge (counted p c.edge e))

abbrev pub taken : StoredChain → StoredEdge → StoredEdge → StoredChain
taken c o e = record { edge = o; more = true; has_near = not e.gap || c.has_near; near = cond e.gap c.near e.base }

unfoldable pub longer : Pass → StoredChain → StoredEdge → StoredChain
longer p c e = taken c (over p c.edge (counted p c.edge e) (joined_value p c e) (joined_decimals p c e)) e

unfoldable pub next : Pass → StoredChain → StoredEdge → Option StoredChain
next p c e = cond (joins p c e) (some (longer p c e)) none

unfoldable pub chains_of : Pass → List StoredEdge → List StoredChain
chains_of p l = chains begin (next p) l

abbrev pub edges_of : List StoredChain → List StoredEdge
edges_of cs = map (λ (c : StoredChain). c.edge) cs

unfoldable pub joined_of : List StoredChain → List StoredEdge
joined_of [] = []
joined_of (c ∷ cs) = cond c.more (c.edge ∷ joined_of cs) (joined_of cs)

unfoldable pub after : Pass → List StoredEdge → List StoredEdge
after p l = edges_of (chains_of p l)

unfoldable pub added : Pass → List StoredEdge → List StoredEdge
added p l = joined_of (chains_of p l)

unfoldable pub first_above : List StoredEdge → Option ℕ
first_above [] = none
first_above (x ∷ l) = cond (ltb TOP x.value) (some x.start) (first_above l)
