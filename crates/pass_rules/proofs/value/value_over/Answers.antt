-- `value_over` meets its contract. Assumes nothing.
use mathlib.Core.Path.{◌≡◌, ap, ◌∙◌}
use mathlib.Core.Bool.{true, false}
use Rattle.pass_list.specs.declared.record.PassEdge.{PassEdge}
use Rattle.pass_list.specs.StoredPass.{both_whole, value_of}
use Rattle.pass_list.specs.Answers.{pass_of}
use Rattle.pass_rules.proofs.value.OverLaws.{whole_fits}
use Rattle.pass_rules.proofs.value.value_over.Goals as goal

pub returns-then-l-r : goal.returns-then-l-r
returns-then-l-r c x y p q =
    let whole : both_whole x y ≡ true = rw (p.is, q.is) at c.if-l-r.true in
    c.known.ensures (value_of (pass_of c.args.pass) 0 x.value y.value) (c.joined_value.ensures x.value y.value p.fits.small.value q.fits.small.value (ap (λ (k : PassEdge). k.num.value) p.is) (ap (λ (k : PassEdge). k.num.value) q.is))
    ∙ whole_fits x y (pass_of c.args.pass) whole

pub returns : goal.returns
returns c x y p q = let some-decimals : both_whole x y ≡ false = rw (p.is, q.is) at c.if-l-r.false in c.decimal_value.ensures x y p q some-decimals
