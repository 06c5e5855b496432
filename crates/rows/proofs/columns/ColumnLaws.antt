-- A column (`specs/Columns.antt`): the byte behind what was put. No contract cites this file. Assumes nothing.
use mathlib.Core.Path.{◌≡◌, refl}
use mathlib.Core.List.{List, [], ◌∷◌}
use Prim.Native.Nat.{ℕ, ◌+◌, ◌-◌}
use native.Mathlib.Omega.{arith}
use lib.ListN.{length, set, length-append}
use lib.Seq.{sets}
use Rattle.whole.proofs.SetsLaws.{sets_then}
use Rattle.edge.specs.Write.{Put}
use Rattle.rows.specs.Columns.{ended}

pub put_ended : (bs s : List ℕ) {t : List ℕ} (at by : ℕ) {end : ℕ} → t ≡ sets s at bs → end ≡ at + length bs → Put s (set t end by) at (end + 1) (ended bs by)
put_ended bs s at by {end} e k = record { wrote = sets_then s at end bs (by ∷ []) e k refl; next = simp length-append (omega arith) }
