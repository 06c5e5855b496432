-- What the code's functions answer on the way (02, S-8). Definitions only.
--     tried w            what the candidate w gives: the length of its text and its value, where it has a row
--     AtFront s t x      t is s with the bytes x at its front
--     rows_from i         the rows of the candidates from i on
--     At i p             the rows from position p on are these
--     PassedIs ..        i candidates are passed, with p rows, none of them behind the position asked for
--     Fills rs s t ..    of the rows rs as many are put at the front of s as fit; t is s then
--     Assumes nothing.
use Rattle.std.specs.Prelude.{ℕ, ◌≤◌, ◌≡◌, List, length, drop, Some, None}
use Rattle.std.proofs.Math.Option.{Option, none, some}
use Rattle.std.proofs.lemmas.List.Edits.{sets}
use Rattle.edge.specs.Write.{Put}
use Rattle.grammar.specs.Plain.{Char, utf8}
use Rattle.sheet_rows.specs.Rows.{numeral_within, rows_of, rows_bytes}
use Rattle.sheet.specs.Sheet.{candidates, sheet, fitting}
use Rattle.std.specs.Prelude as std

abbrev pub tried_as : ℕ → Option ℕ → std.Option (ℕ × ℕ)
tried_as n none = None
tried_as n (some v) = Some (n, v)

abbrev pub tried : List Char → std.Option (ℕ × ℕ)
tried w = tried_as (length (utf8 w)) (numeral_within w)

abbrev pub AtFront : List ℕ → List ℕ → List ℕ → Type 0
AtFront s t x = Put s t 0 (length x) x

abbrev pub rows_from : ℕ → List (List Char × ℕ)
rows_from i = rows_of numeral_within (drop i candidates)

pub record At (i p : ℕ) : Type 0 where
  pub rest : drop p sheet ≡ rows_from i

pub record PassedIs (position i p : ℕ) : Type 0 where
  pub inside : i ≤ 69904
  pub before : p ≤ position
  pub few : p ≤ i
  pub there : At i p

pub record Fills (rs : List (List Char × ℕ)) (s t : List ℕ) (bytes rows : ℕ) : Type 0 where
  pub wrote : t ≡ sets s 0 (rows_bytes (fitting (length s) rs))
  pub end : bytes ≡ length (rows_bytes (fitting (length s) rs))
  pub count : rows ≡ length (fitting (length s) rs)
