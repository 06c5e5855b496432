-- The chain that an edge of the list begins. Definitions only.
--     First p s n i j x    the first chain that pass p makes of the edges i to n of s ends before the j-th, and x is the edge over it
--     RunIs p s n k i t r  that chain was run: x became the k-th edge, which left the list t; or x is above TOP, and r says where it starts
--     Assumes nothing.
use Rattle.std.specs.Prelude.{◌≡◌, List, ◌∷◌, ℕ, ◌-◌, ◌≤◌, ◌<◌, Result, Ok, Err}
use Rattle.std.proofs.Math.Option.{some}
use Rattle.passes.specs.Passes.{Pass}
use Rattle.pass_list.specs.StoredEdge.{StoredEdge, Small}
use Rattle.pass_list.specs.Stored.{stored_list_at}
use Rattle.pass_list.specs.StoredPass.{StoredChain, chains_of, added, first_above}
use Rattle.pass_run.specs.Ended.{Ended}
use Rattle.text.specs.declared.Place.{Place}

pub record First (p : Pass) (s : List ℕ) (n i j : ℕ) (x : StoredEdge) : Type 0 where
  pub later : i < j
  pub inside : j ≤ n
  pub chain : StoredChain
  pub edge : chain.edge ≡ x
  -- the chains of the rest are made from there
  pub chains : chains_of p (stored_list_at s i (n - i)) ≡ chain ∷ chains_of p (stored_list_at s j (n - j))

pub record Ran (p : Pass) (s : List ℕ) (n k i : ℕ) (t : List ℕ) (j : ℕ) : Type 0 where
  pub over : StoredEdge
  pub first : First p s n i j over
  pub small : Small over
  pub ended : Ended s k j over t

unfoldable pub RunIs : Pass → List ℕ → ℕ → ℕ → ℕ → List ℕ → Result ℕ Place → Type 0
RunIs p s n k i t (Ok j) = Ran p s n k i t j
RunIs p s n k i t (Err a) = first_above (added p (stored_list_at s i (n - i))) ≡ some a.0
