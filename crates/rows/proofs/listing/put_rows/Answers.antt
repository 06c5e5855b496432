use mathlib.Core.Path.{◌≡◌, subst}
use Prim.Native.Nat.{ℕ, ◌+◌, ◌-◌, ◌<◌}
use native.Mathlib.Omega.{arith}
use Rattle.paths.proofs.BestLaws.{whole_at}
use Rattle.rows.proofs.listing.ListingRowsLaws.{Walked, walk_whole, walk_room, walk_next, walk_ends}
use Rattle.rows.proofs.listing.put_rows.Goals as goal

pub put_row-at-requires : goal.put_row-at-requires
put_row-at-requires c =
    let more : 0 < c.u16_at-count.result - c.loop.counter = (let t = c.loop-test.true in omega arith) in
    (walk_whole _ _ _ _ _ more c.loop.invariant.0, walk_room _ _ _ _ _ more c.loop.invariant.0 c.loop.invariant.1)

pub next_at-from-requires : goal.next_at-from-requires
next_at-from-requires c =
    let more : 0 < c.u16_at-count.result - c.loop.counter = (let t = c.loop-test.true in omega arith) in
    whole_at _ _ _ more c.loop.invariant.0.whole

pub loop-preserved : goal.loop-preserved
loop-preserved c =
    let more : 0 < c.u16_at-count.result - c.loop.counter = (let t = c.loop-test.true in omega arith) in
    let one_less : (c.u16_at-count.result - c.loop.counter) - 1 ≡ c.u16_at-count.result - (c.loop.counter + 1) = omega arith in (
      subst (λ (k : ℕ). Walked c.args.s.now c.args.text.now c.put_row-at.new.out k c.next_at-from.result c.put_row-at.result) one_less (walk_next _ _ _ _ _ more c.loop.invariant.0 c.put_row-at.ensures c.next_at-from.ensures),
      let e = c.loop.invariant.1 in omega arith,
    )

pub returns : goal.returns
returns c = walk_ends _ _ _ _ _ (let t = c.loop-test.false in omega arith) c.loop.invariant.0
