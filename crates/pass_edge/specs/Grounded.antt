-- What a stored edge of the pass list needs to be listed as an edge of the lattice. w are the line's code points, t the table's bytes. Definitions only.
--     LegalAt t at      at an offset of t stands a record that the table's check accepts
--     ScriptAt t at n   n bytes of t from an offset on are a script: they are there, a string of the table, and UTF-8
--     Rooted t x        what x takes from the table stands there: a character's record, a script; a character is one place long
--     Grounded point w t x   x is made as its edge says, with the points of `point`, its numbers are within 01's bounds, and it is rooted
--     AllGrounded w t l      each stored edge of l is grounded, whether points count or not
--     StoredIs l t e x       the code's edge e is the stored edge x, which is grounded in the line's bytes l and the table's t
-- Assumes nothing.
use Rattle.std.specs.Prelude.{◌≡◌, Bool, true, List, ℕ, suc, ◌+◌, ◌≤◌, length}
use Rattle.fields.specs.Part.{part}
use Rattle.text.specs.Text.{chars, well_formed}
use Rattle.table.specs.Table.{Record}
use Rattle.table.specs.Layout.{Is, read_record, numbers_in, max_string}
use Rattle.table.specs.Check.{legal_texts, legal_numbers}
use Rattle.pass_list.specs.declared.record.PassEdge.{PassEdge}
use Rattle.pass_list.specs.StoredEdge.{StoredEdge, Small, Every, EdgeIs}
use Rattle.pass_list.specs.Edges.{WellMade, points_of}
use Rattle.pass_list.specs.Kind.{kind_number}

pub record LegalAt (t : List ℕ) (at : ℕ) : Type 0 where
  pub prop : Record
  pub next : ℕ
  pub reads : read_record t at ≡ Is prop next
  pub texts : legal_texts prop ≡ true
  pub numbers : legal_numbers (numbers_in prop) ≡ true

pub record ScriptAt (t : List ℕ) (at n : ℕ) : Type 0 where
  pub within : at + n ≤ length t
  pub short : n ≤ max_string
  pub formed : well_formed (part t at n) ≡ true

pub record Rooted (t : List ℕ) (x : StoredEdge) : Type 0 where
  pub legal : kind_number x.kind ≡ 0 → LegalAt t x.record_offset
  pub one : kind_number x.kind ≡ 0 → x.end ≡ suc x.start
  pub script : x.has_script ≡ true → ScriptAt t x.script_offset x.script_len

pub record Grounded (point : ℕ → Bool) (w t : List ℕ) (x : StoredEdge) : Type 0 where
  pub made : WellMade point w t x
  pub small : Small x
  pub rooted : Rooted t x

pub record AllGrounded (w t : List ℕ) (l : List StoredEdge) : Type 0 where
  -- whether points count
  pub marks : Bool
  pub each : Every (Grounded (points_of marks w) w t) l

pub record StoredIs (line table : List ℕ) (e : PassEdge) (x : StoredEdge) : Type 0 where
  pub is : EdgeIs e x
  pub marks : Bool
  pub sound : Grounded (points_of marks (chars line)) (chars line) table x
