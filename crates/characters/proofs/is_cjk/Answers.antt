-- `is_cjk` meets its contract: the part is held against the three bytes.
use mathlib.Core.Path.{◌≡◌, ap, ◌∙◌}
use Prim.Native.Nat.{ℕ, ◌+◌, ◌-◌}
use native.Mathlib.Omega.{arith}
use lib.ListN.{take, drop}
use Rattle.fields.specs.Part.{part}
use Rattle.text.specs.Bytes.{same}
use Rattle.passes.specs.Passes.{cjk}
use Rattle.characters.proofs.is_cjk.Goals as goal

pub returns : goal.returns
unfolding part
returns c = let a = c.args in let e : a.script.at.0 + a.script.len - a.script.at.0 ≡ a.script.len = omega arith in c.same_bytes.ensures ∙ ap (λ (n : ℕ). same (take n (drop a.script.at.0 a.table.now)) cjk) e
