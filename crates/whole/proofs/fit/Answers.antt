-- `whole::fit` meets its contract: `<` of two f64 is that of their whole numbers. Assumes nothing.
use Rattle.std.proofs.Common.{◌≡◌, ℕ, ltb, sym, ◌∙◌, lit≤}
use lib.Ieee.{Float, lt}
use Rattle.whole.specs.Whole.{TOP, of_nat}
use Rattle.whole.proofs.WholeLaws.{of_nat-lt}
use Rattle.whole.proofs.fit.Goals as goal

-- the test of the code is the definition's
same_test : (x t : Float) (k : ℕ) → t ≡ of_nat TOP → x ≡ of_nat k → lt t x ≡ ltb TOP k
same_test x t k q p = rw (q, p) (of_nat-lt k (lit≤ tt))

pub exact_f64-requires : goal.exact_f64-requires
exact_f64-requires c = lit≤ tt

pub returns-then-x-exact_f64 : goal.returns-then-x-exact_f64
returns-then-x-exact_f64 c = λ k p. rw (sym (same_test _ _ k c.exact_f64.ensures p) ∙ c.if-x-exact_f64.true)

pub returns-else-x-exact_f64 : goal.returns-else-x-exact_f64
returns-else-x-exact_f64 c = λ k p. rw (sym (same_test _ _ k c.exact_f64.ensures p) ∙ c.if-x-exact_f64.false, p)
