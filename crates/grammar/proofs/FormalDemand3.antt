-- S-11 of 02 for the formal table: it differs from the plain one by a renaming; a line and its formal twin get the same five lists but for orig_txt; demand 3 (00) for lines of
-- its sixteen characters. Each is one instance of what `passes` (proofs/Twins.antt) and `proofs/Carried.antt` show of any renaming. Assumes nothing.
use Prim.Native.Nat.{ℕ}
use mathlib.Core.Path.{◌≡◌, refl, ◌∙◌}
use mathlib.Core.Bool.{true}
use mathlib.Core.List.{List, [], ◌∷◌, map}
use mathlib.Core.Option.{none, some}
use Rattle.table.specs.Table.{find}
use Rattle.text.specs.Sequence.{scalar}
use Rattle.text.specs.Text.{Scalars, chars, encodes}
use Rattle.passes.specs.Characters.{first_list}
use Rattle.passes.specs.Passes.{Pass, through, above_at}
use Rattle.passes.specs.Renaming.{gap_char, Renaming, twin, Remaining, but_text}
use Rattle.passes.proofs.Twins.{twin_list}
use Rattle.grammar.specs.Plain.{Char, code_point, plain_record, plain, sixteen}
use Rattle.grammar.specs.OtherCharacters.{code_of, record_of, table_of}
use Rattle.grammar.specs.Formal.{formal_code, formal_sixteen, formal}
use Rattle.grammar.proofs.Sixteen.{each}
use Rattle.grammar.proofs.Demand3.{Spells, SettledBy, spelled}
use Rattle.grammar.proofs.OtherTable.{Suits, plain_among, code_of_lem, renaming}
use Rattle.grammar.proofs.Carried.{stands_for, carried_over}

suits : Suits formal_code formal_sixteen
unfolding find table_of record_of plain_record
suits = record {
  found = each (λ c. find (table_of formal_code formal_sixteen).records (formal_code c) ≡ some (record_of formal_code c))
      (refl, refl, refl, refl, refl, refl, refl, refl, refl, refl, refl, refl, refl, refl, refl, refl);
  back = each (λ c. plain_among formal_code sixteen (formal_code c) ≡ code_point c) (refl, refl, refl, refl, refl, refl, refl, refl, refl, refl, refl, refl, refl, refl, refl, refl);
  gaps = each (λ c. gap_char (formal_code c) ≡ gap_char (code_point c)) (refl, refl, refl, refl, refl, refl, refl, refl, refl, refl, refl, refl, refl, refl, refl, refl);
}

-- the formal character of a plain one
abbrev pub formal_of : ℕ → ℕ
formal_of = code_of formal_code

pub formal_renaming : Renaming formal_of plain formal
unfolding formal
formal_renaming = renaming formal_code formal_sixteen suits

-- "A line and its formal twin .. get the same five lists but for orig_txt", the line with any characters more that have a record in neither table
pub formal_lists : (w : List ℕ) → Remaining plain formal w → (ps : List Pass) → but_text (through ps (first_list formal (twin formal_of plain w))) ≡ but_text (through ps (first_list plain w))
formal_lists w remaining ps = twin_list formal_of plain formal formal_renaming w remaining ps

-- ---- lines of the sixteen formal characters
formal_codes : (w : List Char) → map formal_code w ≡ map (stands_for formal_of formal formal_renaming) w
formal_codes [] = refl
formal_codes (c ∷ w) = rw (code_of_lem formal_code c, ← formal_codes w)

-- every w has such a line: its formal characters in UTF-8
formal_scalars : (w : List Char) → Scalars (map formal_code w)
formal_scalars [] = tt
formal_scalars (c ∷ w) = (each (λ c. scalar (formal_code c) ≡ true) (refl, refl, refl, refl, refl, refl, refl, refl, refl, refl, refl, refl, refl, refl, refl, refl) c, formal_scalars w)

pub formal_line_of : (w : List Char) → Spells formal_code (encodes (map formal_code w)) w
formal_line_of w = spelled formal_code w (formal_scalars w)

-- demand 3
pub formal_demand3 : (line : List ℕ) (w : List Char) → Spells formal_code line w → above_at formal (chars line) ≡ none → SettledBy formal line w
formal_demand3 line w is fine =
    carried_over formal_of formal formal_renaming line w (record { is_well_formed = is.is_well_formed; characters = is.characters ∙ formal_codes w }) fine
