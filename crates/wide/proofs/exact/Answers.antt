-- `wide::exact` meets its contract, by the rest and by the quotient's side of TOP. Assumes nothing.
use Prim.Native.Nat.{ℕ, ◌*◌}
use mathlib.Core.Path.{◌≡◌, ap, ◌∙◌}
use Rattle.wide.specs.Numbers.{divided}
use Rattle.wide.proofs.WideLaws.{value_of, parts_product}
use Rattle.wide.proofs.DivideLaws.{exact_not_whole, exact_whole, exact_above}
use Rattle.wide.proofs.exact.Goals as goal

pub divide-by-requires : goal.divide-by-requires
divide-by-requires c = (rw c.product.ensures (parts_product _ _ c.requires.0 c.requires.1), c.requires.2, c.requires.3)

pub returns-then-by-gt0 : goal.returns-then-by-gt0
returns-then-by-gt0 c =
    let is_divided : let a = c.args in c.divide-by.result ≡ divided (a.a * a.b) a.d = c.divide-by.ensures ∙ ap (λ (m : ℕ). divided m c.args.d) (value_of _ c.product.ensures) in
    exact_not_whole _ _ is_divided c.if-by-gt0.true

pub returns-then-fits : goal.returns-then-fits
returns-then-fits c =
    let is_divided : let a = c.args in c.divide-by.result ≡ divided (a.a * a.b) a.d = c.divide-by.ensures ∙ ap (λ (m : ℕ). divided m c.args.d) (value_of _ c.product.ensures) in
    exact_whole _ _ is_divided c.if-by-gt0.false c.fits.ensures c.if-fits.true

pub returns-else-fits : goal.returns-else-fits
returns-else-fits c =
    let is_divided : let a = c.args in c.divide-by.result ≡ divided (a.a * a.b) a.d = c.divide-by.ensures ∙ ap (λ (m : ℕ). divided m c.args.d) (value_of _ c.product.ensures) in
    exact_above _ _ is_divided c.if-by-gt0.false c.fits.ensures c.if-fits.false
