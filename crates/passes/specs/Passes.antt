-- The five passes D1 to G4 (01, "Five passes, D1 to G4"), for the edges of any table. Definitions only.
--     Chain          a chain as far as it goes
--     rule p c e     pass p joins the edge e to the chain c, where they touch
--     joins p c e    pass p joins e to c: they touch, and its rule lets them
--     joined p l e   the edge over l and the edge e, as pass p makes it
--     chains_of p l   the chains of the list l by pass p
--     after p l      the list after pass p: the edge over each chain
--     added p l      the edges that pass p joins, in order: those over chains of two and more
--     through ps l   the list after the passes ps in turn
--     added_by ps l   the edges that the passes ps join in turn, in order
--     five           the five passes
--     fifth_list t w     the list after the fifth pass, of a line of the code points w read with the table t
--     joined_edges t w   the edges that the five passes join, in order
--     above_at t w       where the call is refused 7: the start of the first joined edge with a value above TOP, where there is one
--     Assumes nothing.
use Rattle.std.specs.Prelude.{ℕ, zero, suc, ◌+◌, ◌*◌, ◌/◌, ◌%◌, Bool, true, false, ◌&&◌, not, cond, ◌||◌, List, [], ◌∷◌, ◌++◌, map, leb, ltb, eqb}
use Rattle.std.proofs.Math.Option.{Option, none, some}
use Rattle.table.specs.Table.{Text, Table}
use Rattle.text.specs.Sequence.{encode}
use Rattle.whole.specs.Decimal.{decimal}
use Rattle.text.specs.Bytes.{same}
use Rattle.passes.specs.NumEdge.{NumEdge, or_zero, has, first_above}
use Rattle.passes.specs.Characters.{first_list}
use Rattle.passes.specs.Chains.{chains}

pub data Pass : Type 0 where
  D1 G1 G2 G3 G4 : Pass

-- the type of a joined edge: the pass's name in ASCII
abbrev pub pass_name : Pass → Text
pass_name D1 = 68 ∷ 49 ∷ []
pass_name G1 = 71 ∷ 49 ∷ []
pass_name G2 = 71 ∷ 50 ∷ []
pass_name G3 = 71 ∷ 51 ∷ []
pass_name G4 = 71 ∷ 52 ∷ []

-- "digit" and "cjk_bit" in ASCII
abbrev pub digit_type : Text
digit_type = 100 ∷ 105 ∷ 103 ∷ 105 ∷ 116 ∷ []

abbrev pub cjk : Text
cjk = 67 ∷ 74 ∷ 75 ∷ []

-- "A gap is an edge with orig_txt 零 or 〇."
unfoldable pub gap : NumEdge → Bool
gap e = same e.orig_txt (encode 0x96F6) || same e.orig_txt (encode 0x3007)

abbrev pub one_place : NumEdge → Bool
one_place e = eqb e.end (suc e.start)

-- ---- chains of edges
pub record Chain : Type 0 where
  -- the edge over the chain
  pub edge : NumEdge
  -- whether anything was joined
  pub more : Bool
  -- the base of the chain's nearest edge, from its end, that isn't a gap; a missing base counts as 0, and none stands for no such edge
  pub near : Option ℕ

-- `near` with the edge e at the chain's end
unfoldable pub nearest : NumEdge → Option ℕ → Option ℕ
nearest e n = cond (gap e) n (some (or_zero e.base))

unfoldable pub begin : NumEdge → Chain
begin e = record { edge = e; more = false; near = nearest e none }

-- the chain c with the edge e joined to it, j the edge over both
unfoldable pub longer : Chain → NumEdge → NumEdge → Chain
longer c e j = record { edge = j; more = true; near = nearest e c.near }

-- "touching neighbours (one ends where the next starts)"
abbrev pub touches : Chain → NumEdge → Bool
touches c e = eqb c.edge.end e.start

-- ---- the rules: pass p joins the edge e to the chain c, where they touch

-- D1: "touching digits (type "digit", one place, value 0 to 9)"
unfoldable pub digit_edge : NumEdge → Bool
digit_edge e = same e.type digit_type && one_place e && has e.value && leb (or_zero e.value) 9

-- a chain of two and more is one of digits
unfoldable pub d1_rule : Chain → NumEdge → Bool
d1_rule c e = (c.more || digit_edge c.edge) && digit_edge e

-- "G1 and G3 two at a time": a chain of two takes no more
-- G1: "a base-1 edge with value ≥ 1, then a base above 1 that isn't a large power"
unfoldable pub g1_rule : Chain → NumEdge → Bool
g1_rule c e =
    not c.more && eqb (or_zero c.edge.base) 1 && leb 1 (or_zero c.edge.value) && ltb 1 (or_zero e.base) && not e.large_power

-- "joins if the base of the chain's nearest earlier edge that isn't a gap exceeds its value and its base .. Where the next's value or base, or such an earlier
-- edge, is missing, the next joins exactly if it is a gap." The arguments: the chain's `near`, the next's value and base, whether it is a gap.
abbrev pub exceeds : Option ℕ → Option ℕ → Option ℕ → Bool → Bool
exceeds none v b g = g
exceeds (some n) none b g = g
exceeds (some n) (some v) none g = g
exceeds (some n) (some v) (some b) g = ltb v n && ltb b n

-- G2: "chains that begin with a valued edge, none a large power"; a joined edge has a value and is no large power
unfoldable pub g2_rule : Chain → NumEdge → Bool
g2_rule c e = has c.edge.value && not c.edge.large_power && not e.large_power && exceeds c.near e.value e.base (gap e)

-- G3: "a valued edge that isn't a large power, then a valued large power"
unfoldable pub g3_rule : Chain → NumEdge → Bool
g3_rule c e = not c.more && has c.edge.value && not c.edge.large_power && has e.value && e.large_power

-- n is a power of ten, seen by at most k divisions
unfoldable pub power_within : ℕ → ℕ → Bool
power_within zero n = false
power_within (suc k) n = elim (eqb (n % 10) 0) [ true ↦ power_within k (n / 10) | false ↦ eqb n 1 ]

unfoldable pub power_of_ten : ℕ → Bool
power_of_ten n = power_within n n

abbrev pub is_script : Option Text → Text → Bool
is_script none t = false
is_script (some s) t = same s t

-- G4: "if the last has script cjk_bit and a power of ten base ≥ 1000, and the next is one place long with value 1 to 9"; the edge over a chain
-- has the base and the script of the chain's last, as that one counts
unfoldable pub retags : NumEdge → NumEdge → Bool
retags l e =
    is_script l.script cjk && leb 1000 (or_zero l.base) && power_of_ten (or_zero l.base)
    && one_place e && leb 1 (or_zero e.value) && leb (or_zero e.value) 9

-- "the next counts as value times base/10, with base/10"
unfoldable pub counted_value : NumEdge → NumEdge → Option ℕ
counted_value l e = cond (retags l e) (some (or_zero e.value * (or_zero l.base / 10))) e.value

unfoldable pub counted_base : NumEdge → NumEdge → Option ℕ
counted_base l e = cond (retags l e) (some (or_zero l.base / 10)) e.base

-- "a next edge without value or base doesn't join, unless it is retagged"
abbrev pub under : ℕ → Option ℕ → Option ℕ → Bool
under n none b = false
under n (some v) none = false
under n (some v) (some b) = ltb v n && ltb b n

-- "chains of valued edges; the next joins if the last one's base exceeds its value and base"
unfoldable pub g4_rule : Chain → NumEdge → Bool
g4_rule c e = has c.edge.value && under (or_zero c.edge.base) (counted_value c.edge e) (counted_base c.edge e)

abbrev pub rule : Pass → Chain → NumEdge → Bool
rule D1 = d1_rule
rule G1 = g1_rule
rule G2 = g2_rule
rule G3 = g3_rule
rule G4 = g4_rule

-- ---- the joined edges

-- "A joined edge spans its parts: active, type the pass's name, orig_txt theirs in a row, fields not named by its rule absent. Except in D1, joined txt is the
-- whole value in decimal." The arguments: pass, left and right, value, base, large power. The script is the right one's in every pass.
unfoldable pub over : Pass → NumEdge → NumEdge → ℕ → Option ℕ → Bool → NumEdge
over p l r v b large = record {
  start = l.start;
  end = r.end;
  type = pass_name p;
  txt = decimal v;
  orig_txt = l.orig_txt ++ r.orig_txt;
  value = some v;
  fraction = none;
  base = b;
  mult = none;
  script = r.script;
  large_power = large;
  active = true;
  value_s = none;
}

-- D1: "value_s and txt are the digits' txt in a row, leading zeros kept; the value is what they say in decimal; base 1, script of the last"
unfoldable pub over_digits : NumEdge → NumEdge → NumEdge
over_digits l r = record {
  start = l.start;
  end = r.end;
  type = pass_name D1;
  txt = l.txt ++ r.txt;
  orig_txt = l.orig_txt ++ r.orig_txt;
  value = some (10 * or_zero l.value + or_zero r.value);
  fraction = none;
  base = some 1;
  mult = none;
  script = r.script;
  large_power = false;
  active = true;
  value_s = some (l.txt ++ r.txt);
}

-- G1: "product; right base and script". G2: "Sum; base and script of the last". G3: "product, right base and script, large power". G4: "Sum; base and script
-- of the last", the next as it counts.
unfoldable pub joined : Pass → NumEdge → NumEdge → NumEdge
joined D1 l r = over_digits l r
joined G1 l r = over G1 l r (or_zero l.value * or_zero r.value) r.base false
joined G2 l r = over G2 l r (or_zero l.value + or_zero r.value) r.base false
joined G3 l r = over G3 l r (or_zero l.value * or_zero r.value) r.base true
joined G4 l r = over G4 l r (or_zero l.value + or_zero (counted_value l r)) (counted_base l r) false

-- ---- the passes

-- "joins touching neighbours .. as far as its rule goes"
abbrev pub joins : Pass → Chain → NumEdge → Bool
joins p c e = touches c e && rule p c e

unfoldable pub next : Pass → Chain → NumEdge → Option Chain
next p c e = cond (joins p c e) (some (longer c e (joined p c.edge e))) none

unfoldable pub chains_of : Pass → List NumEdge → List Chain
chains_of p l = chains begin (next p) l

abbrev pub edges_of : List Chain → List NumEdge
edges_of cs = map (λ (c : Chain). c.edge) cs

-- the edges over the chains of two and more
unfoldable pub joined_of : List Chain → List NumEdge
joined_of [] = []
joined_of (c ∷ cs) = cond c.more (c.edge ∷ joined_of cs) (joined_of cs)

unfoldable pub after : Pass → List NumEdge → List NumEdge
after p l = edges_of (chains_of p l)

unfoldable pub added : Pass → List NumEdge → List NumEdge
added p l = joined_of (chains_of p l)

unfoldable pub through : List Pass → List NumEdge → List NumEdge
through [] l = l
through (p ∷ ps) l = through ps (after p l)

-- "Every joined edge is added to the lattice too"
unfoldable pub added_by : List Pass → List NumEdge → List NumEdge
added_by [] l = []
added_by (p ∷ ps) l = added p l ++ added_by ps (after p l)

abbrev pub five : List Pass
five = D1 ∷ G1 ∷ G2 ∷ G3 ∷ G4 ∷ []

abbrev pub fifth_list : Table → List ℕ → List NumEdge
fifth_list t w = through five (first_list t w)

abbrev pub joined_edges : Table → List ℕ → List NumEdge
joined_edges t w = added_by five (first_list t w)

-- refusal 7: "a value above TOP made by D1 to G4", at the "start of the first such edge, in pass order"
abbrev pub above_at : Table → List ℕ → Option ℕ
above_at t w = first_above (joined_edges t w)
