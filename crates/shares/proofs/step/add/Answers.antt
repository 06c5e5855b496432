-- `shares::step::add` meets its contract: both divisors are between 1 and TOP, and what they leave is the sum in lowest terms. The mathematics is in
-- `proofs/AddLaws.antt`. Assumes nothing.
use Prim.Native.Nat.{ℕ, ◌+◌, ◌*◌, ◌/◌, ◌%◌, ◌≤◌, ◌<◌}
use mathlib.Core.Path.{◌≡◌, sym, ap, ◌∙◌}
use Rattle.whole.specs.Whole.{TOP}
use Rattle.wide.specs.Numbers.{Parts, wide, wide_of}
use Rattle.wide.proofs.WideLaws.{value_of, parts_products}
use Rattle.wide.proofs.DivideLaws.{divided_quotient, divided_rest}
use Rattle.passes.specs.Characters.{gcd}
use Rattle.shares.proofs.AddLaws.{part_fits, common_between, again_between, sum_is}
use Rattle.shares.specs.Pool.{Fraction, unless_above, pool}
use Rattle.shares.specs.Answers.{pooled}
use Rattle.shares.proofs.step.add.Goals as goal

pub nonzero_div-x : goal.nonzero_div-x
nonzero_div-x c =
    let common_at : (0 < c.gcd-common.result) × (c.gcd-common.result ≤ TOP) = common_between _ _ c.requires.0 c.requires.1 c.gcd-common.ensures in
    (common_at).0

pub nonzero_div-g : goal.nonzero_div-g
nonzero_div-g c =
    let common_at : (0 < c.gcd-common.result) × (c.gcd-common.result ≤ TOP) = common_between _ _ c.requires.0 c.requires.1 c.gcd-common.ensures in
    (common_at).0

pub products-top-requires : goal.products-top-requires
products-top-requires c = (c.requires.0.numerator, part_fits _ _ c.requires.1.denominator, c.requires.1.numerator, part_fits _ _ c.requires.0.denominator)

pub divide-left-requires : goal.divide-left-requires
divide-left-requires c =
    let top_parts : Parts c.products-top.result =
    rw c.products-top.ensures
    (parts_products _ _ _ _ c.requires.0.numerator (part_fits _ _ c.requires.1.denominator) c.requires.1.numerator (part_fits _ _ c.requires.0.denominator)) in
    let common_at : (0 < c.gcd-common.result) × (c.gcd-common.result ≤ TOP) = common_between _ _ c.requires.0 c.requires.1 c.gcd-common.ensures in
    (top_parts, common_at.0, common_at.1)

pub divide-reduced-requires : goal.divide-reduced-requires
divide-reduced-requires c =
    let top_parts : Parts c.products-top.result =
    rw c.products-top.ensures
    (parts_products _ _ _ _ c.requires.0.numerator (part_fits _ _ c.requires.1.denominator) c.requires.1.numerator (part_fits _ _ c.requires.0.denominator)) in
    let top_is : let k = c.gcd-common.result in let a = c.args in wide_of c.products-top.result ≡ a.f.numerator * (a.g.denominator / k) + a.g.numerator * (a.f.denominator / k) = value_of _ c.products-top.ensures in
    let again_at : let k = c.gcd-common.result in let a = c.args in let t = a.f.numerator * (a.g.denominator / k) + a.g.numerator * (a.f.denominator / k) in (c.gcd-again.result ≡ gcd t k) × (0 < c.gcd-again.result) × (c.gcd-again.result ≤ TOP) =
    let rest : c.divide-left.result.rest ≡ wide_of c.products-top.result % c.gcd-common.result = divided_rest _ _ c.divide-left.ensures in
    again_between _ _ c.requires.0 c.requires.1 c.gcd-common.ensures _ (c.gcd-again.ensures ∙ rw (rest, top_is)) in
    (top_parts, again_at.1, again_at.2)

pub nonzero_div-g-2 : goal.nonzero_div-g-2
nonzero_div-g-2 c =
    let top_is : let k = c.gcd-common.result in let a = c.args in wide_of c.products-top.result ≡ a.f.numerator * (a.g.denominator / k) + a.g.numerator * (a.f.denominator / k) = value_of _ c.products-top.ensures in
    let again_at : let k = c.gcd-common.result in let a = c.args in let t = a.f.numerator * (a.g.denominator / k) + a.g.numerator * (a.f.denominator / k) in (c.gcd-again.result ≡ gcd t k) × (0 < c.gcd-again.result) × (c.gcd-again.result ≤ TOP) =
    let rest : c.divide-left.result.rest ≡ wide_of c.products-top.result % c.gcd-common.result = divided_rest _ _ c.divide-left.ensures in
    again_between _ _ c.requires.0 c.requires.1 c.gcd-common.ensures _ (c.gcd-again.ensures ∙ rw (rest, top_is)) in
    (again_at).1

pub product-requires : goal.product-requires
product-requires c = (part_fits _ _ c.requires.0.denominator, part_fits _ _ c.requires.1.denominator)

pub returns : goal.returns
unfolding pool
returns c =
    let top_is : let k = c.gcd-common.result in let a = c.args in wide_of c.products-top.result ≡ a.f.numerator * (a.g.denominator / k) + a.g.numerator * (a.f.denominator / k) = value_of _ c.products-top.ensures in
    let again_at : let k = c.gcd-common.result in let a = c.args in let t = a.f.numerator * (a.g.denominator / k) + a.g.numerator * (a.f.denominator / k) in (c.gcd-again.result ≡ gcd t k) × (0 < c.gcd-again.result) × (c.gcd-again.result ≤ TOP) =
    let rest : c.divide-left.result.rest ≡ wide_of c.products-top.result % c.gcd-common.result = divided_rest _ _ c.divide-left.ensures in
    again_between _ _ c.requires.0 c.requires.1 c.gcd-common.ensures _ (c.gcd-again.ensures ∙ rw (rest, top_is)) in
    let above : c.divide-reduced.result.quotient ≡ wide (wide_of c.products-top.result / c.gcd-again.result) = divided_quotient _ _ c.divide-reduced.ensures in
    c.narrow.ensures _ _ (above ∙ ap (λ (m : ℕ). wide (m / c.gcd-again.result)) top_is) c.product.ensures
    ∙ ap (λ (f : Fraction). pooled (unless_above f)) (sym (sum_is _ _ c.requires.0 c.requires.1 c.gcd-common.ensures again_at.0))
