-- `record_check::texts::trail_at` meets its contract.
use mathlib.Core.Path.{sym}
use mathlib.Core.Bool.{true≢false}
use native.Mathlib.Omega.{arith}
use Rattle.record_check.proofs.texts.trail_at.Goals as goal

pub returns-then-end-at : goal.returns-then-end-at
returns-then-end-at c = λ e. absurd (true≢false (sym e))

pub bounds-s-at : goal.bounds-s-at
bounds-s-at c = omega (arith, c.requires)

pub returns : goal.returns
returns c = λ e. record { before = c.if-end-at.false; is = e }
