-- `wide::product` meets its contract: each product of halves and each sum fits, and together they are the product. Assumes nothing.
use mathlib.Core.Path.{refl}
use native.Mathlib.Omega.{arith}
use Rattle.wide.proofs.WideLaws.{Halves, halves_at_most, wide_of_lem, product_by_halves}
use Rattle.wide.proofs.product.Goals as goal

pub overflow_mul-x : goal.overflow_mul-x
overflow_mul-x c =
    let bounds : Halves c.args.a c.args.b = halves_at_most c.args.a c.args.b c.requires.0 c.requires.1 in
    omega (arith, bounds)

pub overflow_mul-y : goal.overflow_mul-y
overflow_mul-y c =
    let bounds : Halves c.args.a c.args.b = halves_at_most c.args.a c.args.b c.requires.0 c.requires.1 in
    omega (arith, bounds)

pub overflow_mul-low-3 : goal.overflow_mul-low-3
overflow_mul-low-3 c =
    let bounds : Halves c.args.a c.args.b = halves_at_most c.args.a c.args.b c.requires.0 c.requires.1 in
    omega (arith, bounds)

pub overflow_add-low-2 : goal.overflow_add-low-2
overflow_add-low-2 c =
    let bounds : Halves c.args.a c.args.b = halves_at_most c.args.a c.args.b c.requires.0 c.requires.1 in
    omega (arith, bounds)

pub overflow_mul-result : goal.overflow_mul-result
overflow_mul-result c =
    let bounds : Halves c.args.a c.args.b = halves_at_most c.args.a c.args.b c.requires.0 c.requires.1 in
    omega (arith, bounds)

pub overflow_add-result : goal.overflow_add-result
overflow_add-result c =
    let bounds : Halves c.args.a c.args.b = halves_at_most c.args.a c.args.b c.requires.0 c.requires.1 in
    omega (arith, bounds)

pub overflow_add-result-2 : goal.overflow_add-result-2
overflow_add-result-2 c =
    let bounds : Halves c.args.a c.args.b = halves_at_most c.args.a c.args.b c.requires.0 c.requires.1 in
    omega (arith, bounds)

pub overflow_add-result-3 : goal.overflow_add-result-3
overflow_add-result-3 c =
    let bounds : Halves c.args.a c.args.b = halves_at_most c.args.a c.args.b c.requires.0 c.requires.1 in
    omega (arith, bounds)

pub returns : goal.returns
returns c = wide_of_lem _ _ _ (omega arith) (product_by_halves c.args.a c.args.b _ refl)
