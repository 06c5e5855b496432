-- How long the listing of a path is. Definitions only.
--     Shorter s room o   the path's answer o, over the listing s and with so much room: what is written is no longer than s, and 8 is refused only with less room than s has
--     Assumes nothing.
use Rattle.std.specs.Prelude.{◌≡◌, List, ℕ, ◌≤◌, ◌<◌, length}
use Rattle.paths.specs.declared.ReadRefusal.TheVariants.{ShortOutput}
use Rattle.paths.specs.Path.{PathOut, listing, refused}

pub record Shorter (s : List ℕ) (room : ℕ) (o : PathOut) : Type 0 where
  pub written : (bytes : List ℕ) → o ≡ listing bytes → length bytes ≤ length s
  pub short : o ≡ refused ShortOutput → room < length s
