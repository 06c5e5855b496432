-- A listing's shares pooled (02, S-6). Definitions only.
--     share e             the fraction of an active edge that has one
--     join f e            the sum f with the share of the edge e, if it has one; none where the step is refused
--     pool_from i f es     what the edges es, of which the first has index i, come to with the sum f
--     pool_edges es        what the edges es come to
--     pool_shares line s   what the listing s over a line comes to, or the refusal
-- Assumes nothing.
use Rattle.std.specs.Prelude.{ℕ, suc, cond, List, [], ◌∷◌, Result, Ok, Err}
use Rattle.std.proofs.Math.Option.{Option, none, some}
use Rattle.edge.specs.Edge.{Numeric, Edge}
use Rattle.edge.specs.Layout.{listed}
use Rattle.paths.specs.Reading.{readable, read_check}
use Rattle.shares.specs.Pool.{Fraction, pool}
use Rattle.shares.specs.Answers.{ratio_of}
use Rattle.passes.specs.declared.ratio.Ratio.{Ratio}
use Rattle.shares.specs.declared.SharesRefusal.{SharesRefusal}

-- "active edges that have a fraction (bit 2)"
abbrev pub share_of : Option Numeric → Option Fraction
share_of none = none
share_of (some n) = cond n.active n.fraction none

abbrev pub share : Edge → Option Fraction
share e = share_of e.num

abbrev pub join_share : Fraction → Option Fraction → Option Fraction
join_share f none = some f
join_share f (some g) = pool f g

abbrev pub join : Fraction → Edge → Option Fraction
join f e = join_share f (share e)

-- "in listing order"; "It refuses with 11 at the first step .., naming that edge's index in the listing, counted from 0"
unfoldable pub pool_from : ℕ → Fraction → List Edge → Result Ratio SharesRefusal
pool_from i f [] = Ok (ratio_of f)
pool_from i f (e ∷ es) = elim (join f e) [ none ↦ Err (SharesRefusal.Above i) | some g ↦ pool_from (suc i) g es ]

-- "none gives 0/1"
abbrev pub pool_edges : List Edge → Result Ratio SharesRefusal
pool_edges es = pool_from 0 (0, 1) es

-- "Pool one listing's ..", "after any fault 6": the checks of a call that reads a listing come first
unfoldable pub pool_shares : List ℕ → List ℕ → Result Ratio SharesRefusal
pool_shares line s = readable (λ r. Err (SharesRefusal.Reading r)) (λ n k. pool_edges (listed s)) (read_check line s)
