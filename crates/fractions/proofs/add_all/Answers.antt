use native.Mathlib.Omega.{arith}
use Rattle.fractions.proofs.OutcomesLaws.{grown_start, grown_next, grown_more, grown_ends}
use Rattle.fractions.proofs.add_all.Goals as goal

pub loop-p-init : goal.loop-p-init
loop-p-init c = grown_start _ _ _ _

pub add_choice-grown-requires : goal.add_choice-grown-requires
add_choice-grown-requires c =
    let t = c.loop-p-test.true in
    ((c.args.places, grown_next c.loop-p.invariant t c.requires.0.1), omega (arith, c.requires.1))

pub loop-p-preserved : goal.loop-p-preserved
loop-p-preserved c = grown_more c.loop-p.invariant c.loop-p-test.true {u = c.add_choice-grown.new.work} {m = c.add_choice-grown.result} c.add_choice-grown.auto.work c.add_choice-grown.ensures.0 c.add_choice-grown.ensures.1

pub shape_of-work : goal.shape_of-work
shape_of-work c = c.loop-p.invariant.long

pub returns : goal.returns
returns c = let i = c.loop-p.invariant in (i.frame, grown_ends i c.loop-p-test.false)
