use native.Mathlib.Omega.{arith}
use Rattle.paths.specs.Table.{by_table}
use Rattle.paths.proofs.PathLaws.{Hopped, hopped, copied_pass, copied_room, copied_take, copied_ends}
use Rattle.paths.proofs.walk.write_path.Goals as goal

pub loop-p-preserved-in-None : goal.loop-p-preserved-in-None
loop-p-preserved-in-None c =
    let step : let a = c.args in Hopped a.s.now (by_table a.s.now a.right.now.tops a.right.now.ats) a.end.0 c.loop-p.p c.hop_from.result = hopped c.args.s.now c.args.right.now.tops c.args.right.now.ats c.requires.0 c.args.end.0 c.requires.1 c.loop-p.p c.loop-p-test.true c.hop_from.ensures in
    copied_pass _ _ _ _ _ _ _ _ c.loop-p.invariant (step.past c.in-None.is)

pub slice_bounds-copy_in-count : goal.slice_bounds-copy_in-count
slice_bounds-copy_in-count c =
    let step : let a = c.args in Hopped a.s.now (by_table a.s.now a.right.now.tops a.right.now.ats) a.end.0 c.loop-p.p c.hop_from.result = hopped c.args.s.now c.args.right.now.tops c.args.right.now.ats c.requires.0 c.args.end.0 c.requires.1 c.loop-p.p c.loop-p-test.true c.hop_from.ensures in
    (step.over c.in-Some.is).rises

pub slice_bounds-copy_in-start : goal.slice_bounds-copy_in-start
slice_bounds-copy_in-start c =
    let step : let a = c.args in Hopped a.s.now (by_table a.s.now a.right.now.tops a.right.now.ats) a.end.0 c.loop-p.p c.hop_from.result = hopped c.args.s.now c.args.right.now.tops c.args.right.now.ats c.requires.0 c.args.end.0 c.requires.1 c.loop-p.p c.loop-p-test.true c.hop_from.ensures in
    (step.over c.in-Some.is).rises

pub slice_bounds-copy_in-end : goal.slice_bounds-copy_in-end
slice_bounds-copy_in-end c =
    let step : let a = c.args in Hopped a.s.now (by_table a.s.now a.right.now.tops a.right.now.ats) a.end.0 c.loop-p.p c.hop_from.result = hopped c.args.s.now c.args.right.now.tops c.args.right.now.ats c.requires.0 c.args.end.0 c.requires.1 c.loop-p.p c.loop-p-test.true c.hop_from.ensures in
    (step.over c.in-Some.is).within

pub copy_in-requires : goal.copy_in-requires
copy_in-requires c =
    let step : let a = c.args in Hopped a.s.now (by_table a.s.now a.right.now.tops a.right.now.ats) a.end.0 c.loop-p.p c.hop_from.result = hopped c.args.s.now c.args.right.now.tops c.args.right.now.ats c.requires.0 c.args.end.0 c.requires.1 c.loop-p.p c.loop-p-test.true c.hop_from.ensures in
    copied_room _ _ _ _ _ _ _ _ c.loop-p.invariant (step.over c.in-Some.is) c.requires.2

pub overflow_sub-at : goal.overflow_sub-at
overflow_sub-at c =
    let step : let a = c.args in Hopped a.s.now (by_table a.s.now a.right.now.tops a.right.now.ats) a.end.0 c.loop-p.p c.hop_from.result = hopped c.args.s.now c.args.right.now.tops c.args.right.now.ats c.requires.0 c.args.end.0 c.requires.1 c.loop-p.p c.loop-p-test.true c.hop_from.ensures in
    (step.over c.in-Some.is).rises

pub loop-p-smaller : goal.loop-p-smaller
loop-p-smaller c =
    let step : let a = c.args in Hopped a.s.now (by_table a.s.now a.right.now.tops a.right.now.ats) a.end.0 c.loop-p.p c.hop_from.result = hopped c.args.s.now c.args.right.now.tops c.args.right.now.ats c.requires.0 c.args.end.0 c.requires.1 c.loop-p.p c.loop-p-test.true c.hop_from.ensures in
    omega (arith, (step.over c.in-Some.is).leads_on, c.loop-p-test.true)

pub loop-p-preserved : goal.loop-p-preserved
loop-p-preserved c =
    let step : let a = c.args in Hopped a.s.now (by_table a.s.now a.right.now.tops a.right.now.ats) a.end.0 c.loop-p.p c.hop_from.result = hopped c.args.s.now c.args.right.now.tops c.args.right.now.ats c.requires.0 c.args.end.0 c.requires.1 c.loop-p.p c.loop-p-test.true c.hop_from.ensures in
    copied_take _ _ _ _ _ _ _ _ c.loop-p.invariant (step.over c.in-Some.is) c.copy_in.ensures

pub returns : goal.returns
returns c = copied_ends _ _ _ _ _ _ _ _ c.loop-p.invariant c.loop-p-test.false
