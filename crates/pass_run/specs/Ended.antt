-- The place of a chain that ended. Definitions only.
--     Ended s k i x t   in the list s the edge x became the k-th, with the k edges before it and what stands from the i-th on as they were: t
--     Assumes nothing.
use Rattle.std.specs.Prelude.{◌≡◌, List, [], ◌∷◌, ◌++◌, ℕ, ◌+◌, ◌*◌, drop}
use Rattle.pass_list.specs.StoredEdge.{StoredEdge}
use Rattle.pass_list.specs.Layout.{SIZE}
use Rattle.pass_list.specs.Stored.{stored_list_at}

pub record Ended (s : List ℕ) (k i : ℕ) (x : StoredEdge) (t : List ℕ) : Type 0 where
  pub stored : stored_list_at t 0 (k + 1) ≡ stored_list_at s 0 k ++ (x ∷ [])
  pub rest : drop (i * SIZE) t ≡ drop (i * SIZE) s
