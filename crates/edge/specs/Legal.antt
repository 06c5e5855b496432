-- Edges that may be listed (01, row 6 of the refusals). Definitions only.
--     Legal given n e       the edge e may stand in a listing over a line of n characters; given: in a listing that is given to the call
--     AllLegal given n es   each edge of es may
--     Assumes nothing.
use Rattle.std.specs.Prelude.{◌≡◌, Bool, true, List, [], ◌∷◌, ℕ}
use Rattle.edge.specs.Edge.{Edge, map_of, EdgeFits}
use Rattle.edge.specs.Check.{allowed, sound}

pub record Legal (given : Bool) (n : ℕ) (e : Edge) : Type 0 where
  pub fits : EdgeFits e
  pub map : allowed given (map_of e.num) ≡ true
  pub content : sound n e ≡ true

pub data AllLegal (given : Bool) (n : ℕ) : List Edge → Type 0 where
  no_edge : AllLegal given n []
  one_more_lem : {e : Edge} {es : List Edge} → Legal given n e → AllLegal given n es → AllLegal given n (e ∷ es)
