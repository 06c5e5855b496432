-- S-7 of 02 for the call. "Let a line be two parts with one character between that has no record, none of the three refused; then the list after G4 is the first part's list
-- followed by the second's, with its places moved by the first's length plus one. This holds for every table, at empty parts as well." The lists are those that the definition
-- of the call uses (`specs/Call.antt`: first_list, fifth_list of the table that the bytes say and the line's characters); `moved` is defined in `passes`, whose proofs/Parts.antt
-- has the same without a call. Assumes nothing.
use Prim.Native.Nat.{ℕ, ◌+◌, ◌≤◌}
use mathlib.Core.Path.{◌≡◌, sym, ap, ◌∙◌}
use mathlib.Core.Bool.{true}
use mathlib.Core.List.{List, ◌∷◌, ◌++◌, map}
use mathlib.Core.Option
use mathlib.Core.Option.{Option, none}
use native.Mathlib.Omega.{arith}
use lib.ListN.{length, length-append}
use Rattle.text.specs.Sequence.{encode, scalar}
use Rattle.text.specs.Text.{chars, well_formed}
use Rattle.text.specs.Line.{max_chars}
use Rattle.table.specs.Table.{Table, find}
use Rattle.table.specs.Check.{Fine, read_table}
use Rattle.passes.specs.Characters.{first_list}
use Rattle.passes.specs.Passes.{Pass, through, five, fifth_list, above_at}
use Rattle.passes.specs.Moved.{moved}
use Rattle.passes.proofs.Parts.{characters_parts, list_parts, above_in_first, above_in_second, parts_well_formed}
use Rattle.numbers.specs.Call.{add_numbers, no_edges}
use Rattle.numbers.proofs.Accepted.{Listed, accepted, seven_at, refused_seven}

-- the table's bytes and the table that they say; the first part, the character between, the second part
module _ (table : List ℕ) (t : Table) (at : ℕ) (reads : read_table table ≡ Fine t at) (x : List ℕ) (c : ℕ) (y : List ℕ) (character : scalar c ≡ true)
    (no_record : find t.records c ≡ none) where
  abbrev whole : List ℕ
  whole = x ++ (encode c ++ y)

  -- the call of a line, no edges given, is not refused, with some work space and output
  abbrev NotRefused : List ℕ → Type 0
  NotRefused line = (work : ℕ) × (out : ℕ) × Listed (add_numbers line table no_edges work out)

  -- each of the five lists, and D1's
  pub call_lists : NotRefused x → NotRefused whole → NotRefused y → (ps : List Pass)
      → through ps (first_list t (chars whole)) ≡ through ps (first_list t (chars x)) ++ map (moved (length (chars x) + 1)) (through ps (first_list t (chars y)))
  call_lists (work, out, h) _ _ ps =
      let ok = (accepted table t at reads x no_edges work out h).0 in
      rw (characters_parts x c y ok character) (list_parts t (chars x) c (chars y) no_record ps)

  -- "the list after G4"
  pub call_parts : NotRefused x → NotRefused whole → NotRefused y
      → fifth_list t (chars whole) ≡ fifth_list t (chars x) ++ map (moved (length (chars x) + 1)) (fifth_list t (chars y))
  call_parts h k l = call_lists h k l five

  -- ---- refusal 7, of calls that get past the checks before it
  module _ (work out : ℕ) (room : 65536 ≤ work) (first-ok : well_formed x ≡ true) (second-ok : well_formed y ≡ true) (fits : length (chars x) + 1 + length (chars y) ≤ max_chars) where
    abbrev seven : List ℕ → Option ℕ
    seven line = seven_at (add_numbers line table no_edges work out)

    length_parts : length (chars whole) ≡ length (chars x) + 1 + length (chars y)
    length_parts = rw (characters_parts x c y first-ok character, length-append (chars x) (c ∷ chars y)) (omega arith)

    seven_x : seven x ≡ above_at t (chars x)
    seven_x = refused_seven table t at reads x work out room first-ok (omega arith)

    seven_y : seven y ≡ above_at t (chars y)
    seven_y = refused_seven table t at reads y work out room second-ok (omega arith)

    seven_whole : seven whole ≡ above_at t (chars x ++ c ∷ chars y)
    seven_whole =
        refused_seven table t at reads whole work out room (parts_well_formed x c y first-ok character second-ok) (omega (arith, length_parts))
        ∙ ap (above_at t) (characters_parts x c y first-ok character)

    -- where the first part is not refused 7, the whole is refused 7 where the second is, moved
    pub seven_in_second : seven x ≡ none → seven whole ≡ Option.map (λ i. length (chars x) + 1 + i) (seven y)
    seven_in_second h = seven_whole ∙ above_in_second t (chars x) c (chars y) no_record (sym seven_x ∙ h) ∙ rw seven_y

    -- where the second is not, where the first is
    pub seven_in_first : seven y ≡ none → seven whole ≡ seven x
    seven_in_first h = seven_whole ∙ above_in_first t (chars x) c (chars y) no_record (sym seven_y ∙ h) ∙ sym seven_x
