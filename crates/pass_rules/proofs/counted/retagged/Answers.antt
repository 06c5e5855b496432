-- `retagged` meets its contract: the f64 product is exact. Assumes nothing.
use mathlib.Core.Path.{◌≡◌, ap, ◌∙◌}
use native.Mathlib.Omega.{arith}
use Rattle.pass_list.specs.declared.record.PassEdge.{PassEdge}
use Rattle.whole.specs.Whole.{of_nat}
use Rattle.whole.proofs.WholeLaws.{of_nat-mul}
use Prim.Native.Nat.{◌/◌}
use Rattle.pass_list.specs.StoredPass.{with_numbers}
use Rattle.pass_rules.proofs.counted.retagged.Goals as goal

pub exact_f64-requires : goal.exact_f64-requires
exact_f64-requires c = let (x, p) = c.requires.0 in let s = p.fits.small.base in omega (arith, ap (λ (e : PassEdge). e.num.base) p.is)

pub returns : goal.returns
unfolding with_numbers
returns c x y p q =
    let s = p.fits.small.base in
    let tenth : c.exact_f64.result ≡ of_nat (x.base / 10) = c.exact_f64.ensures ∙ ap (λ (e : PassEdge). of_nat (e.num.base / 10)) p.is in
    rw (tenth, p.is, q.is, of_nat-mul {n = x.base / 10} q.fits.small.value (omega arith))
