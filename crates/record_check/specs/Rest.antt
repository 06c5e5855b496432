-- Bytes of a part that are taken off its front, since they are those of characters. Definitions only.
--     Trail s at end       a continuation byte (Unicode Standard, table 3-7) stands at an offset before end
--     Rest s from end r    the bytes from an offset on up to end are UTF-8 just where those from r on are
--     SequenceIs s at end r   where r is an offset, it is behind at, and the bytes in between are those of characters
-- Assumes nothing.
use Rattle.std.specs.Prelude.{◌≡◌, true, List, ℕ, ◌-◌, ◌≤◌, ◌<◌, get_or, Option, Some, None}
use Rattle.fields.specs.Part.{part}
use Rattle.text.specs.Table.{trail}
use Rattle.text.specs.Text.{well_formed}

pub record Trail (s : List ℕ) (at end : ℕ) : Type 0 where
  pub before : at < end
  pub is : trail (get_or s at 0) ≡ true

pub record Rest (s : List ℕ) (from end r : ℕ) : Type 0 where
  pub behind : from ≤ r
  pub before : r ≤ end
  pub same : well_formed (part s from (end - from)) ≡ well_formed (part s r (end - r))

abbrev pub SequenceIs : List ℕ → ℕ → ℕ → Option ℕ → Type 0
SequenceIs s at end (Some next) = (at < next) × Rest s at end next
SequenceIs s at end None = Unit {0}
