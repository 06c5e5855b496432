-- `lattice::find::bucket_of` meets its contract: its length, its first four bytes and its last four are mixed. Assumes nothing.
use Prim.Native.Nat.{ℕ, ◌/◌}
use mathlib.Core.Path.{ap, ◌∙◌}
use Rattle.lattice.proofs.find.BucketLaws.{hash_is}
use Rattle.lattice.proofs.find.bucket_of.Goals as goal

pub returns : goal.returns
returns c = ap (λ (z : ℕ). z / 16777216) c.mix.ensures ∙ hash_is _ _ _ c.requires.0 c.requires.1 c.u32_at.ensures c.mix-spans.ensures c.u32_at-2.ensures
