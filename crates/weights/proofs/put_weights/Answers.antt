use native.Mathlib.Omega.{arith}
use Rattle.weights.proofs.LineLaws.{count_of}
use Rattle.weights.proofs.UnitLaws.{counted_one}
use Rattle.weights.proofs.OutLaws.{walk_start, walk_step, walk_end, step_counts, step_room}
use borrow.Author.Rules.{rules}
use Rattle.weights.proofs.put_weights.Goals as goal

pub loop-place-init : goal.loop-place-init
loop-place-init c = let (v, e, n, room) = c.requires in λ w q. walk_start w q (count_of v e n w q) (c.last_unit.ensures w q)

pub overflow_sub-k : goal.overflow_sub-k
overflow_sub-k c =
    let (v, e, n, room) = c.requires in
    step_counts v e (c.loop-place.invariant v e) c.loop-place-test.true c.glyph_at-glyph.ensures (counted_one c.weighed.ensures c.from-k.ensures).0

pub overflow_mul-k : goal.overflow_mul-k
overflow_mul-k c =
    let (v, e, n, room) = c.requires in
    let h = step_room v (c.loop-place.invariant v e) n room in
    search rules

pub put_weight-requires : goal.put_weight-requires
put_weight-requires c =
    let (v, e, n, room) = c.requires in
    let h = step_room v (c.loop-place.invariant v e) n room in
    let k = step_counts v e (c.loop-place.invariant v e) c.loop-place-test.true c.glyph_at-glyph.ensures (counted_one c.weighed.ensures c.from-k.ensures).0 in
    omega (arith, h, k, (counted_one c.weighed.ensures c.from-k.ensures).0, c.loop-place.auto.out)

pub loop-place-preserved : goal.loop-place-preserved
loop-place-preserved c = λ w e. walk_step w e (c.loop-place.invariant w e) c.loop-place-test.true c.glyph_at-glyph.ensures (counted_one c.weighed.ensures c.from-k.ensures).0 c.put_weight.ensures c.before-units.ensures

pub returns : goal.returns
returns c = λ w e. walk_end w (c.loop-place.invariant w e) (omega (arith, c.loop-place-test.false))
