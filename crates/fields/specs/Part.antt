-- A part of a list of bytes (01: "a part of the listing .. a part of the line"). Definitions only.
--     part s at n    the n bytes of s from the offset at on; fewer where s ends before
--     part_of s p     the bytes of s that p names
-- Assumes nothing.
use Rattle.std.specs.Prelude.{List, ℕ, take, drop}
use Rattle.fields.specs.declared.Part.{Part}

unfoldable pub part : List ℕ → ℕ → ℕ → List ℕ
part s at n = take n (drop at s)

abbrev pub part_of : List ℕ → Part → List ℕ
part_of s p = part s p.at.0 p.len
