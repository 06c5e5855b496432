use Rattle.std.proofs.Common.{ap, not}
use mathlib.Core.Path.{◌≡◌, sym, ◌∙◌}
use Prim.Native.Nat.{◌-◌}
use native.Mathlib.Omega.{arith}
use borrow.Author.Tests.{not-true, not-false}
use Rattle.regular.proofs.CheckLaws.{walk_start, walk_end, walk_stands, walk_here, walk_next}
use Rattle.regular.proofs.first_irregular.Goals as goal

pub loop-init : goal.loop-init
loop-init c = let all : c.args.n - 0 ≡ c.args.n = omega arith in rw all (walk_start _ _ _ c.requires)

pub record_here-p-requires : goal.record_here-p-requires
record_here-p-requires c = walk_stands c.loop.invariant (omega arith)

pub is_regular-requires : goal.is_regular-requires
is_regular-requires c = c.record_here-p.ensures.1

pub returns-then-not-is_regular : goal.returns-then-not-is_regular
returns-then-not-is_regular c = walk_here c.loop.invariant (omega arith) _ c.record_here-p.ensures.0 (sym c.is_regular.ensures ∙ not-true _ (ap not c.if-not-is_regular.true))

pub loop-preserved : goal.loop-preserved
loop-preserved c = walk_next c.loop.invariant (omega arith) _ c.record_here-p.ensures.0 (sym c.is_regular.ensures ∙ not-false _ (ap not c.if-not-is_regular.false)) (omega arith)

pub returns : goal.returns
returns c = walk_end c.loop.invariant (omega arith)
