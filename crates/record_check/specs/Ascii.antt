-- ASCII bytes within others. Definitions only.
--     Ascii s from end   the bytes of s from an offset on, up to end, are ASCII
-- Assumes nothing.
use Rattle.std.specs.Prelude.{List, ℕ, ◌≤◌, ◌<◌, get_or}

pub record Ascii (s : List ℕ) (from end : ℕ) : Type 0 where
  pub low : (i : ℕ) → from ≤ i → i < end → get_or s i 0 < 0x80
