-- The passes in turn on the stored edges of a pass list, as `through` and `added_by` of `passes` (specs/Passes.antt) on edges. Definitions only.
--     through ps l   the stored edges after the passes ps in turn
--     added_by ps l   the stored edges that the passes ps join in turn, in order
--     of_kind k l     the stored edges of l that are of kind k, in order
--     Assumes nothing.
use Rattle.std.specs.Prelude.{ℕ, cond, List, [], ◌∷◌, ◌++◌, eqb}
use Rattle.passes.specs.Passes.{Pass}
use Rattle.pass_list.specs.StoredEdge.{StoredEdge}
use Rattle.pass_list.specs.StoredPass.{after, added}
use Rattle.pass_list.specs.Kind.{kind_number}

unfoldable pub through : List Pass → List StoredEdge → List StoredEdge
through [] l = l
through (p ∷ ps) l = through ps (after p l)

unfoldable pub added_by : List Pass → List StoredEdge → List StoredEdge
added_by [] l = []
added_by (p ∷ ps) l = added p l ++ added_by ps (after p l)

unfoldable pub of_kind : ℕ → List StoredEdge → List StoredEdge
of_kind k [] = []
of_kind k (x ∷ l) = cond (eqb (kind_number x.kind) k) (x ∷ of_kind k l) (of_kind k l)
