use Prim.Native.Nat.{◌-◌}
use native.Mathlib.Omega.{arith}
use Rattle.paths.specs.Table.{by_table}
use Rattle.paths.proofs.PathLaws.{Hopped, hopped, path_short, sized_start, sized_never, sized_pass, sized_take, sized_over, sized_room, sized_ends}
use Rattle.paths.proofs.walk.path_size.Goals as goal

pub returns-then-room-lt2 : goal.returns-then-room-lt2
returns-then-room-lt2 c = sized_never _ _ _ c.if-room-lt2.true

pub loop-p-init : goal.loop-p-init
loop-p-init c = sized_start _ _ _ _ _ c.if-room-lt2.false

pub loop-p-preserved-in-None : goal.loop-p-preserved-in-None
loop-p-preserved-in-None c =
    let step : let a = c.args in Hopped a.s.now (by_table a.s.now a.right.now.tops a.right.now.ats) a.end.0 c.loop-p.p c.hop_from.result = hopped c.args.s.now c.args.right.now.tops c.args.right.now.ats c.requires.0 c.args.end.0 c.requires.1 c.loop-p.p c.loop-p-test.true c.hop_from.ensures in
    sized_pass _ _ _ _ _ _ _ _ c.loop-p.invariant (step.past c.in-None.is)

pub overflow_sub-size : goal.overflow_sub-size
overflow_sub-size c =
    let step : let a = c.args in Hopped a.s.now (by_table a.s.now a.right.now.tops a.right.now.ats) a.end.0 c.loop-p.p c.hop_from.result = hopped c.args.s.now c.args.right.now.tops c.args.right.now.ats c.requires.0 c.args.end.0 c.requires.1 c.loop-p.p c.loop-p-test.true c.hop_from.ensures in
    (step.over c.in-Some.is).rises

pub returns-then-room-len : goal.returns-then-room-len
returns-then-room-len c =
    let step : let a = c.args in Hopped a.s.now (by_table a.s.now a.right.now.tops a.right.now.ats) a.end.0 c.loop-p.p c.hop_from.result = hopped c.args.s.now c.args.right.now.tops c.args.right.now.ats c.requires.0 c.args.end.0 c.requires.1 c.loop-p.p c.loop-p-test.true c.hop_from.ensures in
    sized_over _ _ _ _ _ _ _ _ c.loop-p.invariant (step.over c.in-Some.is) c.if-room-len.true

pub overflow_add-n : goal.overflow_add-n
overflow_add-n c =
    let step : let a = c.args in Hopped a.s.now (by_table a.s.now a.right.now.tops a.right.now.ats) a.end.0 c.loop-p.p c.hop_from.result = hopped c.args.s.now c.args.right.now.tops c.args.right.now.ats c.requires.0 c.args.end.0 c.requires.1 c.loop-p.p c.loop-p-test.true c.hop_from.ensures in
    let a = c.args in
    omega (arith, sized_room _ _ _ _ _ _ _ _ c.loop-p.invariant (step.over c.in-Some.is), path_short (by_table a.s.now a.right.now.tops a.right.now.ats) a.end.0 (a.end.0 - a.start.0) a.start.0)

pub loop-p-smaller : goal.loop-p-smaller
loop-p-smaller c =
    let step : let a = c.args in Hopped a.s.now (by_table a.s.now a.right.now.tops a.right.now.ats) a.end.0 c.loop-p.p c.hop_from.result = hopped c.args.s.now c.args.right.now.tops c.args.right.now.ats c.requires.0 c.args.end.0 c.requires.1 c.loop-p.p c.loop-p-test.true c.hop_from.ensures in
    omega (arith, (step.over c.in-Some.is).leads_on, c.loop-p-test.true)

pub loop-p-preserved : goal.loop-p-preserved
loop-p-preserved c =
    let step : let a = c.args in Hopped a.s.now (by_table a.s.now a.right.now.tops a.right.now.ats) a.end.0 c.loop-p.p c.hop_from.result = hopped c.args.s.now c.args.right.now.tops c.args.right.now.ats c.requires.0 c.args.end.0 c.requires.1 c.loop-p.p c.loop-p-test.true c.hop_from.ensures in
    sized_take _ _ _ _ _ _ _ _ c.loop-p.invariant (step.over c.in-Some.is) c.if-room-len.false

pub returns : goal.returns
returns c = sized_ends _ _ _ _ _ _ _ _ c.loop-p.invariant c.loop-p-test.false
