use mathlib.Core.Path.{◌≡◌}
use Rattle.singles.proofs.StageLaws.{walked_start, walked_here, walked_next, walked_end}
use Rattle.singles.proofs.silence_all.Goals as goal

pub loop-i-init : goal.loop-i-init
loop-i-init c = walked_start _ _ _

pub silence_one-requires : goal.silence_one-requires
silence_one-requires c =
    let not_full : c.args.lattice.len ≡ 0 → ⊥ = c.requires.0 in
    let p = c.requires.1 in
    (not_full, (p.0, p.1, walked_here c.loop-i.invariant not_full c.loop-i-test.true p.0 p.2.0 p.1 p.2.1 p.2.2))

pub loop-i-preserved : goal.loop-i-preserved
loop-i-preserved c =
    let not_full : c.args.lattice.len ≡ 0 → ⊥ = c.requires.0 in
    walked_next c.loop-i.invariant not_full c.loop-i-test.true c.silence_one.auto.work c.silence_one.ensures.0 c.silence_one.ensures.1

pub shape_of-work : goal.shape_of-work
shape_of-work c = c.loop-i.invariant.long

pub returns : goal.returns
returns c =
    let not_full : c.args.lattice.len ≡ 0 → ⊥ = c.requires.0 in
    (c.loop-i.invariant.frame, walked_end c.loop-i.invariant not_full c.loop-i-test.false)
