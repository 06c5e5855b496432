-- The text of an answer (`specs/Printed.antt`), from what was put at the front of the text. No contract cites this file. Assumes nothing.
use mathlib.Core.Path.{ap, ◌∙◌}
use mathlib.Core.List.{List}
use Prim.Native.Nat.{ℕ, ◌≤◌}
use native.Mathlib.Omega.{arith}
use lib.ListN.{length}
use lib.Seq.{length-sets}
use Rattle.edge.specs.Write.{Put}
use Rattle.numbers.specs.Call.{Answer}
use Rattle.rows.specs.Printed.{printed, TextIs}

pub text_is : {text t : List ℕ} {r : ℕ} (a : Answer) → Put text t 0 r (printed a) → length (printed a) ≤ length text → TextIs text t r a
text_is {text} a p h = record { put = p; room = let e = p.next in omega (arith, ap length p.wrote ∙ length-sets text 0 (printed a)) }
