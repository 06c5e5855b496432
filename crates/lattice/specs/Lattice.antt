-- The lattice: an ordered list of edges (01, "From characters to edges", "Output order"). Definitions only.
--     same_key a b      a and b are equal in start, end, txt and type
--     has es e         an edge of es is
--     add es e         es with e behind it, unless it has one equal to it; add_all es cs: with each of cs in turn
--     inactive e       the edge e, not active; a regular edge stays as it is
--     turn_off es is    es with the edges whose indices are in the list `is` inactive
--     most_edges, most_bytes    what a finished listing may hold
--     overfull es      es is more than a finished listing may hold: 1,024 edges or 32,768 bytes
--     Assumes nothing.
use Rattle.std.specs.Prelude.{ℕ, zero, suc, Bool, false, cond, ◌&&◌, ◌||◌, List, [], ◌∷◌, ◌++◌, length, eqb, ltb}
use Rattle.std.proofs.Math.Option.{map}
use Rattle.text.specs.Bytes.{same}
use Rattle.edge.specs.Edge.{Edge, Numeric, listing_bytes}

-- "edges equal in start, end, txt and type are one"
unfoldable pub same_key : Edge → Edge → Bool
same_key a b = eqb a.start b.start && (eqb a.end b.end && (same a.txt b.txt && same a.type b.type))

unfoldable pub has : List Edge → Edge → Bool
has [] e = false
has (d ∷ es) e = same_key d e || has es e

-- "the first": a later one is not added
unfoldable pub add : List Edge → Edge → List Edge
add es e = cond (has es e) es (es ++ (e ∷ []))

unfoldable pub add_all : List Edge → List Edge → List Edge
add_all es [] = es
add_all es (c ∷ cs) = add_all (add es c) cs

abbrev pub quiet : Numeric → Numeric
quiet n = record {
  orig = n.orig;
  value = n.value;
  fraction = n.fraction;
  base = n.base;
  mult = n.mult;
  script = n.script;
  large = n.large;
  active = false;
  value_s = n.value_s;
  decimals = n.decimals;
}

unfoldable pub inactive : Edge → Edge
inactive e = record { start = e.start; end = e.end; type = e.type; txt = e.txt; num = map quiet e.num }

unfoldable pub turn_off_at : List Edge → ℕ → List Edge
turn_off_at [] i = []
turn_off_at (e ∷ es) zero = inactive e ∷ es
turn_off_at (e ∷ es) (suc i) = e ∷ turn_off_at es i

unfoldable pub turn_off : List Edge → List ℕ → List Edge
turn_off es [] = es
turn_off es (i ∷ is) = turn_off (turn_off_at es i) is

-- what a finished listing may hold
abbrev pub most_edges : ℕ
most_edges = 1024

abbrev pub most_bytes : ℕ
most_bytes = 32768

unfoldable pub overfull : List Edge → Bool
overfull es = ltb most_edges (length es) || ltb most_bytes (length (listing_bytes es))
