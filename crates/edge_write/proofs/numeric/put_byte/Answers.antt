-- `edge_write::numeric::put_byte` meets its contract: a byte that is stored is the one byte of its number. Assumes nothing.
use Prim.Native.Nat.{ℕ, ◌%◌, ◌<◌}
use mathlib.Core.Path.{◌≡◌, refl}
use mathlib.Core.List.{List}
use native.Mathlib.Omega.{arith}
use lib.ListN.{set}
use lib.Seq.{sets}
use Rattle.fields.specs.Fields.{bytes_of}
use Rattle.edge_write.proofs.numeric.put_byte.Goals as goal

one_byte : (s : List ℕ) (at v : ℕ) → v < 256 → set s at v ≡ sets s at (bytes_of 1 v)
unfolding bytes_of
one_byte s at v h = let e : v % 256 ≡ v = omega arith in rw e

pub returns : goal.returns
returns c = (refl, one_byte _ _ _ (omega arith))
