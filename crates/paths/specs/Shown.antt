-- The text shown at a place (01, "Added: .."): which part of which lent slice, and its bytes. Definitions only.
--     shown line s p          the best right neighbour's txt, a part of the listing s, or the character's own bytes, a part of the line; or the refusal
--     shown_part line s w      the bytes that w names; none for a refusal
-- Assumes nothing.
use Rattle.std.specs.Prelude.{ℕ, suc, ◌-◌, false, cond, List, [], ltb, Option, Some, None, Result, Ok, Err}
use Rattle.text.specs.declared.Place.{Place}
use Rattle.text.specs.Text.{offset_of}
use Rattle.edge.specs.Edge.{Text}
use Rattle.edge.specs.Layout.{txt_at}
use Rattle.fields.specs.Part.{part_of}
use Rattle.edge.specs.View.{part_at}
use Rattle.paths.specs.declared.Query.TheVariants as Query
use Rattle.paths.specs.declared.ReadRefusal.TheVariants.{BadPlace}
use Rattle.paths.specs.Best.{best, with_offsets, found}
use Rattle.paths.specs.Reading.{read_check, readable}
use Rattle.text.specs.declared.Offset.{Offset}
use Rattle.paths.specs.declared.ReadRefusal.{ReadRefusal}
use Rattle.paths.specs.declared.Shown.{Shown}

-- by the best right neighbour of place p
unfoldable pub shown_by : List ℕ → List ℕ → ℕ → Option Offset → Shown
shown_by line s p (Some o) = Shown.Listing (part_at s (txt_at s o.0))
shown_by line s p None = Shown.Line (record { at = record { 0 = offset_of line p }; len = offset_of line (suc p) - offset_of line p })

-- "The end of the line is refused 9"; no skip
abbrev pub shown_in : List ℕ → List ℕ → Place → ℕ → ℕ → Result Shown ReadRefusal
shown_in line s p n k = cond (ltb p.0 n) (Ok (shown_by line s p.0 (found (best false (Query.Right p) (with_offsets k s 2))))) (Err BadPlace)

unfoldable pub shown : List ℕ → List ℕ → Place → Result Shown ReadRefusal
shown line s p = readable Err (shown_in line s p) (read_check line s)

unfoldable pub shown_part : List ℕ → List ℕ → Result Shown ReadRefusal → Text
shown_part line s (Ok (Shown.Listing w)) = part_of s w
shown_part line s (Ok (Shown.Line w)) = part_of line w
shown_part line s (Err r) = []
