-- From characters to edges (01, "From characters to edges"), for any table. Definitions only.
--     lowest f          the fraction f in lowest terms; 0/d is 0/1
--     char_edge i c r    the edge of the code point c with record r, at place i
--     char_edges rs i w  the edges of the code points w, the first of them at place i, in line order
--     first_list t w     D1's list: the edges of a line of the code points w, read with the table t
--     Assumes nothing.
use Rattle.std.specs.Prelude.{ℕ, zero, suc, ◌/◌, ◌%◌, true, false, List, [], ◌∷◌, eqb}
use Rattle.std.proofs.Math.Option.{Option, none, some, get_or, map}
use Rattle.table.specs.Table.{Record, Table, find}
use Rattle.text.specs.Sequence.{encode}
use Rattle.passes.specs.NumEdge.{NumEdge}

-- Euclid's algorithm in at most k steps
unfoldable pub gcd_within : ℕ → ℕ → ℕ → ℕ
gcd_within zero a b = a
gcd_within (suc k) a b = elim (eqb b 0) [ true ↦ a | false ↦ gcd_within k b (a % b) ]

-- b steps are enough, since b falls at each
unfoldable pub gcd : ℕ → ℕ → ℕ
gcd a b = gcd_within b a b

unfoldable pub lowest : ℕ × ℕ → ℕ × ℕ
lowest (n, d) = (n / gcd n d, d / gcd n d)

-- "an active edge one place long: orig_txt the character, txt rom or else the character, the rest the record's"
unfoldable pub char_edge : ℕ → ℕ → Record → NumEdge
char_edge i c r = record {
  start = i;
  end = suc i;
  type = r.type;
  txt = get_or r.rom (encode c);
  orig_txt = encode c;
  value = r.value;
  fraction = map lowest r.fraction;
  base = r.base;
  mult = r.mult;
  script = r.script;
  large_power = r.large_power;
  active = true;
  value_s = none;
}

-- the edge of c, where it has a record, before the others
abbrev pub with_edge : ℕ → ℕ → Option Record → List NumEdge → List NumEdge
with_edge i c none es = es
with_edge i c (some r) es = char_edge i c r ∷ es

unfoldable pub char_edges : List Record → ℕ → List ℕ → List NumEdge
char_edges rs i [] = []
char_edges rs i (c ∷ w) = with_edge i c (find rs c) (char_edges rs (suc i) w)

-- "D1's list is these edges in line order, without the given ones."
abbrev pub first_list : Table → List ℕ → List NumEdge
first_list t w = char_edges t.records 0 w
