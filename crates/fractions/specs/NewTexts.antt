-- What the code says of a text at the front of a buffer. Definitions only.
--     TextIs s r t          the first r bytes of the buffer s are the text t
--     text_room             the room for the text of a new edge
--     Assumes nothing.
use Rattle.std.specs.Prelude.{◌≡◌, List, ℕ, ◌≤◌, length, take}
use Rattle.edge.specs.Edge.{Text}

-- the buffer of a new edge's text
abbrev pub text_room : ℕ
text_room = 300

pub record TextIs (s : List ℕ) (r : ℕ) (t : Text) : Type 0 where
  pub is : take r s ≡ t
  pub len : r ≡ length t
  pub room : r ≤ length s
  pub short : r ≤ text_room
