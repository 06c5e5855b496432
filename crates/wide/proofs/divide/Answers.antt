use Prim.Native.Nat.{◌<◌}
use native.Mathlib.Omega.{arith}
use native.Mathlib.Nat.{mod-lt}
use Rattle.wide.specs.Numbers.{wide_of}
use Rattle.wide.proofs.DivideLaws.{going_first, scale_positive, digit_small, lower_small, turn, ended}
use Rattle.wide.proofs.divide.Goals as goal

pub loop-scale-init : goal.loop-scale-init
loop-scale-init c = going_first _ _ _ (mod-lt _ c.requires.1) c.requires.0.lo

pub overflow_mul-next : goal.overflow_mul-next
overflow_mul-next c = omega arith

pub nonzero_div-next : goal.nonzero_div-next
nonzero_div-next c =
    let d_positive : 0 < c.args.d = c.requires.1 in
    scale_positive d_positive c.loop-scale.invariant c.loop-scale-test.true

pub overflow_add-next : goal.overflow_add-next
overflow_add-next c =
    let d_positive : 0 < c.args.d = c.requires.1 in
    omega (arith, digit_small d_positive c.loop-scale.invariant c.loop-scale-test.true)

pub nonzero_rem-left : goal.nonzero_rem-left
nonzero_rem-left c =
    let d_positive : 0 < c.args.d = c.requires.1 in
    scale_positive d_positive c.loop-scale.invariant c.loop-scale-test.true

pub overflow_mul-lower : goal.overflow_mul-lower
overflow_mul-lower c =
    let d_positive : 0 < c.args.d = c.requires.1 in
    omega (arith, lower_small d_positive c.loop-scale.invariant c.loop-scale-test.true)

pub nonzero_div-lower : goal.nonzero_div-lower
nonzero_div-lower c =
    let d_positive : 0 < c.args.d = c.requires.1 in
    d_positive

pub overflow_add-lower : goal.overflow_add-lower
overflow_add-lower c =
    let d_positive : 0 < c.args.d = c.requires.1 in
    omega (arith, lower_small d_positive c.loop-scale.invariant c.loop-scale-test.true)

pub nonzero_rem-rest-in-loop-scale : goal.nonzero_rem-rest-in-loop-scale
nonzero_rem-rest-in-loop-scale c =
    let d_positive : 0 < c.args.d = c.requires.1 in
    d_positive

pub loop-scale-smaller : goal.loop-scale-smaller
loop-scale-smaller c = omega arith

pub loop-scale-preserved : goal.loop-scale-preserved
loop-scale-preserved c =
    let d_positive : 0 < c.args.d = c.requires.1 in
    turn d_positive c.loop-scale.invariant c.loop-scale-test.true

pub returns : goal.returns
unfolding wide_of
returns c = let a = c.args in ended a.d a.x.hi a.x.lo _ _ _ _ c.loop-scale.invariant c.loop-scale-test.false
