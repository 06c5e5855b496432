-- The texts of a stored edge, and a text at the front of a buffer. Definitions only.
--     char_txt w t at a b   the txt of a character from place a to place b whose record stands at an offset of the table
--     char_type t at        its type
--     type_of t x           the type of a stored edge
--     TextsAre ..          the code's edge e is the stored edge x, sound, with type ty and txt tx
--     Front s u r txt      u is s with txt at its front, r bytes
-- Assumes nothing.
use Rattle.std.specs.Prelude.{◌≡◌, cond, List, [], ℕ, eqb, length}
use Rattle.std.proofs.Math.Option.{get_or}
use Rattle.std.proofs.lemmas.List.Edits.{sets}
use Rattle.table.specs.Table.{Text}
use Rattle.text.specs.Text.{chars}
use Rattle.pass_list.specs.declared.record.PassEdge.{PassEdge}
use Rattle.pass_list.specs.StoredEdge.{StoredEdge}
use Rattle.pass_list.specs.Edges.{between, of_record, kind_name, txt_of}
use Rattle.pass_list.specs.Kind.{kind_number}
use Rattle.pass_edge.specs.Grounded.{StoredIs}

unfoldable pub char_txt : List ℕ → List ℕ → ℕ → ℕ → ℕ → Text
char_txt w t at a b = of_record t at (λ r. get_or r.rom (between w a b)) []

unfoldable pub char_type : List ℕ → ℕ → Text
char_type t at = of_record t at (λ r. r.type) []

-- as `edge_of` has it
unfoldable pub type_of : List ℕ → StoredEdge → Text
type_of t x = cond (eqb (kind_number x.kind) 0) (char_type t x.record_offset) (kind_name (kind_number x.kind))

pub record TextsAre (line table : List ℕ) (e : PassEdge) (ty tx : Text) (x : StoredEdge) : Type 0 where
  pub stored_edge : StoredIs line table e x
  pub type : ty ≡ type_of table x
  pub txt : tx ≡ txt_of (chars line) table x

pub record Front (s u : List ℕ) (r : ℕ) (txt : Text) : Type 0 where
  pub wrote : u ≡ sets s 0 txt
  pub long : r ≡ length txt
