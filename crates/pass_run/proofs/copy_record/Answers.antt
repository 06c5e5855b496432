-- `copy_record` meets its contract. Assumes nothing.
use mathlib.Core.Path.{◌≡◌, ◌∙◌}
use Prim.Native.Nat.{◌+◌, ◌-◌}
use native.Mathlib.Omega.{arith}
use Rattle.std.proofs.lemmas.List.Edits.{sets-eq}
use Rattle.fields.specs.Part.{part}
use Rattle.fields.proofs.PartLaws.{length_part}
use Rattle.pass_list.specs.Layout.{SIZE}
use Rattle.pass_run.proofs.copy_record.Goals as goal

pub returns : goal.returns
unfolding part
returns c =
    let a = c.args in
    let n : a.from + SIZE - a.from ≡ SIZE = omega arith in
    let l = length_part a.list.now a.from SIZE c.requires.1 in
    c.copy_within.ensures.after ∙ rw (n, sets-eq (part a.list.now a.from SIZE) a.list.now a.to (omega arith), l)
