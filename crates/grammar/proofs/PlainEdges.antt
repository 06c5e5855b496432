-- The edges of a line of plain characters, as `char_edges` makes them of the plain records.
use Prim.Native.Nat.{ℕ, suc}
use mathlib.Core.Path.{◌≡◌, refl}
use mathlib.Core.Bool.{true}
use mathlib.Core.List.{List, [], ◌∷◌, map}
use mathlib.Core.Option.{none, some}
use Rattle.table.specs.Table.{find}
use Rattle.text.specs.Text.{Scalars}
use Rattle.text.specs.Sequence.{encode, scalar}
use Rattle.whole.specs.Decimal.{decimal}
use Rattle.passes.specs.NumEdge.{NumEdge}
use Rattle.passes.specs.Characters.{char_edge, char_edges}
use Rattle.passes.specs.Passes.{cjk}
use Rattle.grammar.specs.Plain.{Char, code_point, type_of, char_value, char_base, is_large, plain_record, plain_records, plain}
use Rattle.grammar.proofs.Sixteen.{each}

abbrev pub plain_edge : ℕ → Char → NumEdge
plain_edge i c = record {
  start = i;
  end = suc i;
  type = type_of c;
  txt = decimal (char_value c);
  orig_txt = encode (code_point c);
  value = some (char_value c);
  fraction = none;
  base = some (char_base c);
  mult = none;
  script = some cjk;
  large_power = is_large c;
  active = true;
  value_s = none;
}

-- each of the sixteen is found in the table
pub find_plain : (c : Char) → find plain_records (code_point c) ≡ some (plain_record c)
unfolding find plain_records plain_record
find_plain = each (λ c. find plain_records (code_point c) ≡ some (plain_record c)) (refl, refl, refl, refl, refl, refl, refl, refl, refl, refl, refl, refl, refl, refl, refl, refl)

abbrev pub plain_edges : ℕ → List Char → List NumEdge
plain_edges i [] = []
plain_edges i (c ∷ w) = plain_edge i c ∷ plain_edges (suc i) w

pub char_edges_plain : (w : List Char) (i : ℕ) → char_edges plain_records i (map code_point w) ≡ plain_edges i w
unfolding char_edges char_edge plain_record
char_edges_plain [] i = refl
char_edges_plain (c ∷ w) i = rw (find_plain c, char_edges_plain w (suc i))

-- D1's list of a line whose code points are those of w
pub plain_line_lem : (cs : List ℕ) (w : List Char) → cs ≡ map code_point w → char_edges plain.records 0 cs ≡ plain_edges 0 w
unfolding plain
plain_line_lem cs w e = rw e (char_edges_plain w 0)

-- the code points of the sixteen are scalar values
char_scalar : (c : Char) → scalar (code_point c) ≡ true
char_scalar = each (λ c. scalar (code_point c) ≡ true) (refl, refl, refl, refl, refl, refl, refl, refl, refl, refl, refl, refl, refl, refl, refl, refl)

pub plain_scalars : (w : List Char) → Scalars (map code_point w)
plain_scalars [] = tt
plain_scalars (c ∷ w) = (char_scalar c, plain_scalars w)
