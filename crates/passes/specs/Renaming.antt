-- Tables that differ by a renaming of characters (02, S-11). Definitions only.
--     gap_char c        c is a gap character
--     renamed d r      the record r, as one of the code point d
--     Renaming f t u   the records of u are those of t, their characters renamed by f
--     twin f t w       the twin of the line w: its characters with a record in t renamed, the others as they are
--     Remaining t u w  those others have a record in neither table
--     but_text l        the edges l without orig_txt
--     Assumes nothing.
use Rattle.std.specs.Prelude.{ℕ, ◌≡◌, Bool, ◌||◌, List, [], ◌∷◌, map, eqb}
use Rattle.std.proofs.Math.Option.{Option, none, some}
use Rattle.table.specs.Table.{Text, Record, Table, find}
use Rattle.passes.specs.NumEdge.{NumEdge}
use Rattle.passes.specs.Moved.{with_text}

-- 零 or 〇: the characters of 01's gaps
abbrev pub gap_char : ℕ → Bool
gap_char c = eqb c 0x96F6 || eqb c 0x3007

abbrev pub renamed : ℕ → Record → Record
renamed d r = record {
  code_point = d;
  type = r.type;
  rom = r.rom;
  value = r.value;
  fraction = r.fraction;
  base = r.base;
  mult = r.mult;
  script = r.script;
  large_power = r.large_power;
}

-- "any two tables whose records differ only by a one-to-one renaming of characters, where every record has a rom, gap characters map to gap characters and no others do".
-- The lists agree without `back` and `one_to_one`; by these two lines and their twins go together one by one (`proofs/TwinLines.antt`).
pub record Renaming (f : ℕ → ℕ) (t u : Table) : Type 0 where
  pub there : (c : ℕ) (r : Record) → find t.records c ≡ some r → find u.records (f c) ≡ some (renamed (f c) r)
  -- u has no record more, and no two characters get one name
  pub back : (d : ℕ) (s : Record) → find u.records d ≡ some s → (c : ℕ) × (r : Record) × (find t.records c ≡ some r) × (f c ≡ d)
  pub one_to_one : (c d : ℕ) (r s : Record) → find t.records c ≡ some r → find t.records d ≡ some s → f c ≡ f d → c ≡ d
  pub has_rom : (c : ℕ) (r : Record) → find t.records c ≡ some r → (x : Text) × (r.rom ≡ some x)
  pub gaps : (c : ℕ) (r : Record) → find t.records c ≡ some r → gap_char (f c) ≡ gap_char c

-- "A line and its .. twin"
abbrev pub twin_char : (ℕ → ℕ) → ℕ → Option Record → ℕ
twin_char f c none = c
twin_char f c (some r) = f c

abbrev pub twin : (ℕ → ℕ) → Table → List ℕ → List ℕ
twin f t w = map (λ (c : ℕ). twin_char f c (find t.records c)) w

-- "lines whose remaining characters have a record in neither table"
abbrev pub Remaining : Table → Table → List ℕ → Type 0
Remaining t u [] = Unit {0}
Remaining t u (c ∷ w) = (find t.records c ≡ none → find u.records c ≡ none) × Remaining t u w

-- "the same .. but for orig_txt"
abbrev pub but_text : List NumEdge → List NumEdge
but_text l = map (with_text []) l
