-- The pass list before D1 (01, "From characters to edges"). Definitions only.
--     records_in t all        the records of the table t that all says: where they begin, and how many
--     Records t all          the table t passed its check, and these are its records, so many
--     SoFar point w t rs k s n   s begins with n stored edges: those of the first k characters of the line w (code points), by the records rs of the table t; `point` says which
--                            places hold a point that counts
--     points_count d t        whether points count with the table t; d: in this call they do where they have no record (02, S-13)
--     Initial d line t h s n   the same of the whole line, by the table t of shape h: what `initialize_num_edges` leaves
-- Assumes nothing.
use Rattle.std.specs.Prelude.{◌≡◌, Bool, ◌&&◌, List, ℕ, ◌≤◌, length}
use Rattle.text.specs.Text.{chars}
use Rattle.table.specs.Table.{Record, Table, find, is_none}
use Rattle.table.specs.Layout.{records_at}
use Rattle.table.specs.Check.{Fine, read_table}
use Rattle.table.specs.Answers.{table_of}
use Rattle.table.specs.declared.shape.Shape.{Shape}
use Rattle.table.specs.declared.index.RecordRun.{RecordRun}
use Rattle.pass_list.specs.StoredEdge.{Every, AllSmall}
use Rattle.pass_list.specs.Stored.{stored_list_at}
use Rattle.passes.specs.DecimalPasses.{point_character}
use Rattle.pass_list.specs.Edges.{points_of}
use Rattle.pass_list.specs.FirstStored.{FirstStored}
use Rattle.pass_edge.specs.Grounded.{Rooted}

abbrev pub records_in : List ℕ → RecordRun → List Record
records_in t all = records_at all.left t all.at

pub record Records (t : List ℕ) (all : RecordRun) : Type 0 where
  pub table : Table
  pub checked : read_table t ≡ Fine table (length t)
  pub these : table.records ≡ records_in t all
  pub full : length (records_in t all) ≡ all.left

pub record SoFar (point : ℕ → Bool) (w t : List ℕ) (rs : List Record) (k : ℕ) (s : List ℕ) (n : ℕ) : Type 0 where
  pub stored_edges : FirstStored point w t rs k (stored_list_at s 0 n)
  pub few : n ≤ k
  pub small : AllSmall (stored_list_at s 0 n)
  pub rooted : Every (Rooted t) (stored_list_at s 0 n)

-- "one point (U+002E, where that has no record)"
abbrev pub points_count : Bool → Table → Bool
points_count d t = d && is_none (find t.records point_character)

abbrev pub Initial : Bool → List ℕ → List ℕ → Shape → List ℕ → ℕ → Type 0
Initial d line t h s n = SoFar (points_of (points_count d (table_of t h)) (chars line)) (chars line) t (table_of t h).records (length (chars line)) s n
