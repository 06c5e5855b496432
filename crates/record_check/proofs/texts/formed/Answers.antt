-- `record_check::texts::formed` meets its contract: a string that is told to be ASCII is well-formed.
use mathlib.Core.Path.{◌≡◌, sym, ap, ◌∙◌}
use Prim.Native.Nat.{ℕ, ◌+◌, ◌-◌}
use native.Mathlib.Omega.{arith}
use Rattle.fields.specs.Part.{part}
use Rattle.text.specs.Text.{well_formed}
use Rattle.record_check.proofs.ascii.MaskLaws.{ascii_formed}
use Rattle.record_check.proofs.texts.formed.Goals as goal

pub returns-then-short_ascii : goal.returns-then-short_ascii
returns-then-short_ascii c = sym (ascii_formed _ _ _ c.requires (c.short_ascii.ensures c.if-short_ascii.true))

pub returns : goal.returns
returns c =
    let a = c.args in
    let n : a.at + a.len - a.at ≡ a.len = omega arith in
    c.any_formed.ensures ∙ ap (λ (m : ℕ). well_formed (part a.s.now a.at m)) n
