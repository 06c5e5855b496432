use mathlib.Core.Path.{◌≡◌, subst}
use Prim.Native.Nat.{ℕ}
use native.Mathlib.Omega.{arith}
use lib.ListN.{length}
use Rattle.lines.specs.Lines.{LineAt}
use Rattle.lines.proofs.LineLaws.{walk_skipped, walk_newline, walk_on, walk_end}
use Rattle.lines.proofs.next_line.line_at.Goals as goal

pub skip-i-requires : goal.skip-i-requires
skip-i-requires c = omega arith

pub loop-i-init : goal.loop-i-init
loop-i-init c = walk_skipped _ _ _ c.skip-i.ensures.0 c.skip-i.ensures.1 c.skip-i.ensures.2

pub bounds-lines-i : goal.bounds-lines-i
bounds-lines-i c = omega arith

pub overflow_add-result : goal.overflow_add-result
overflow_add-result c = omega arith

pub returns-then-lines-i-eq-NEWLINE : goal.returns-then-lines-i-eq-NEWLINE
returns-then-lines-i-eq-NEWLINE c = walk_newline _ _ c.loop-i.i c.loop-i.invariant c.loop-i-test.true c.if-lines-i-eq-NEWLINE.true

pub loop-i-preserved : goal.loop-i-preserved
loop-i-preserved c = walk_on _ _ c.loop-i.i c.loop-i.invariant c.loop-i-test.true c.if-lines-i-eq-NEWLINE.false

pub returns : goal.returns
returns c =
    let all : c.loop-i.i ≡ length c.args.lines.now = omega (arith, c.loop-i.invariant.inside, c.loop-i-test.false) in
    subst (λ (i : ℕ). LineAt c.args.lines.now c.args.at (record { end = i; next = i })) all (walk_end _ _ c.loop-i.i c.loop-i.invariant c.requires c.loop-i-test.false)
