-- Given edges that pass the check are regular and one place long at least. No contract cites this file. Assumes nothing.
use mathlib.Core.Path.{◌≡◌}
use mathlib.Core.Bool.{true}
use mathlib.Core.List.{List}
use Prim.Native.Nat.{ℕ, zero, suc}
use Rattle.edge.specs.Layout.{next_at, edge_at, edges_at, listed}
use Rattle.edge.specs.Check.{check_listing}
use Rattle.pass_list.specs.StoredEdge.{Every, nil, cons}
use Rattle.numbers.proofs.stages.SoundLaws.{sound_of}
use Rattle.first_stages.proofs.given.GivenLaws as given
use Rattle.singles.proofs.SinglePlaces.{Given}
use Rattle.std.specs.Prelude.{Ok}

given_edges_lem : (n : ℕ) (s : List ℕ) (k at : ℕ) → given.Regulars n k s at → Every Given (edges_at k s at)
unfolding given.Regulars edges_at
given_edges_lem n s zero at r = nil
given_edges_lem n s (suc k) at (r, rs) =
    cons (record { regular = given.no_data s at r.map; rises = (sound_of n (edge_at s at) r.content).rises }) (given_edges_lem n s k (next_at s at) rs)

pub checked_given : (n : ℕ) (s : List ℕ) (count : ℕ) → check_listing true n s ≡ Ok count → Every Given (listed s)
checked_given n s count e = let r = given.checked_given n s count e in rw r.0 at (given_edges_lem n s count 2 r.1)
