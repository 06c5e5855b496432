use native.Mathlib.Omega.{arith}
use Rattle.lines.proofs.LineLaws.{none_start, none_join}
use Rattle.lines.proofs.next_line.skip.Goals as goal

pub loop-i-init : goal.loop-i-init
loop-i-init c = (omega arith, omega arith, none_start _ _)

pub none_in_eight-requires : goal.none_in_eight-requires
none_in_eight-requires c = c.loop-i.invariant.1

pub overflow_add-i : goal.overflow_add-i
overflow_add-i c = omega (arith, (c.none_in_eight.ensures c.loop-i-test.true).0)

pub loop-i-smaller : goal.loop-i-smaller
loop-i-smaller c = omega (arith, (c.none_in_eight.ensures c.loop-i-test.true).0)

pub loop-i-preserved : goal.loop-i-preserved
loop-i-preserved c =
    let e = c.none_in_eight.ensures c.loop-i-test.true in
    let v = c.loop-i.invariant in
    (omega (arith, v.0), e.0, none_join _ _ _ _ v.2 e.1)

pub returns : goal.returns
returns c = c.loop-i.invariant
