-- The number nearest to a place (02, S-14). Definitions only.
--     is_number e                the edge e is numeric and active
--     between p a z             how many characters lie between the place p and a span from a to z
--     distance p e              .. and the edge e
--     lower a b otherwise       a is below b; where they are equal, otherwise decides
--     comes_first p e f          e comes before f, wherever they stand in the listing
--     replaces_held p e held     e is given instead of what was held of the edges before it
--     nearest p xs              of edges with labels, the number nearest to p; none where there is no number
--     nearest_number line s p    what the call answers: the offset of that edge in the listing s, none, or the refusal
--     held_at s f, Held s f      what is held of the listing s, by its offset f; its span is one of a line
-- Assumes nothing.
use Rattle.std.specs.Prelude.{ℕ, ◌+◌, ◌-◌, min, Bool, true, false, cond, ◌&&◌, List, [], ◌∷◌, eqb, ltb, leb, Some, None, Result, Ok, Err}
use Rattle.std.proofs.Math.Option.{Option, none, some}
use Rattle.text.specs.declared.Place.{Place}
use Rattle.text.specs.Line.{max_chars}
use Rattle.edge.specs.Edge.{Numeric, Edge}
use Rattle.edge.specs.Layout.{edge_at}
use Rattle.paths.specs.declared.ReadRefusal.TheVariants.{BadPlace}
use Rattle.paths.specs.Best.{Best, with_offsets, found}
use Rattle.paths.specs.Reading.{Spanned, readable, read_check}
use Rattle.std.specs.Prelude as std
use Rattle.text.specs.declared.Offset.{Offset}
use Rattle.paths.specs.declared.ReadRefusal.{ReadRefusal}

-- "the active numeric edge"
abbrev pub is_active : Option Numeric → Bool
is_active none = false
is_active (some n) = n.active

unfoldable pub is_number : Edge → Bool
is_number e = is_active e.num

-- ---- "the fewest characters between it and the place"
abbrev pub difference : ℕ → ℕ → ℕ
difference a b = (a - b) + (b - a)

-- "an edge whose start is at most the place and whose end is at least the place counts zero, and any other counts the difference to its start or end,
-- whichever is nearer"
unfoldable pub between : ℕ → ℕ → ℕ → ℕ
between p a z = cond (leb a p && leb p z) 0 (min (difference p a) (difference p z))

abbrev pub distance : ℕ → Edge → ℕ
distance p e = between p e.start e.end

-- ---- "At equal distance the earlier start wins, then the longer edge, then listing order."
abbrev pub lower : ℕ → ℕ → Bool → Bool
lower a b otherwise = cond (eqb a b) otherwise (ltb a b)

abbrev pub size : Edge → ℕ
size e = e.end - e.start

unfoldable pub comes_first : ℕ → Edge → Edge → Bool
comes_first p e f = lower (distance p e) (distance p f) (lower e.start f.start (lower (size f) (size e) false))

abbrev pub beats : ℕ → Edge → Best → Bool
beats p e none = true
beats p e (some x) = comes_first p e x.1

-- "then listing order": e stands behind what is held, which stays where neither comes first
unfoldable pub replaces_held : ℕ → Edge → Best → Bool
replaces_held p e held = is_number e && beats p e held

unfoldable pub nearest_from : ℕ → Best → List (ℕ × Edge) → Best
nearest_from p held [] = held
nearest_from p held (x ∷ xs) = nearest_from p (cond (replaces_held p x.1 held) (some x) held) xs

abbrev pub nearest : ℕ → List (ℕ × Edge) → Best
nearest p xs = nearest_from p none xs

-- ---- the call: "A place above the line's length is 9, after 6."
abbrev pub nearest_in : List ℕ → ℕ → ℕ → ℕ → Result (std.Option Offset) ReadRefusal
nearest_in s p n k = cond (leb p n) (Ok (found (nearest p (with_offsets k s 2)))) (Err BadPlace)

unfoldable pub nearest_number : List ℕ → List ℕ → Place → Result (std.Option Offset) ReadRefusal
nearest_number line s p = readable Err (nearest_in s p.0) (read_check line s)

-- ---- for the code: an edge is held by its offset
abbrev pub held_at : List ℕ → std.Option Offset → Best
held_at s (Some o) = some (o.0, edge_at s o.0)
held_at s None = none

abbrev pub Held : List ℕ → std.Option Offset → Type 0
Held s (Some o) = Spanned max_chars s o.0
Held s None = Unit {0}
