use mathlib.Core.Path.{◌≡◌}
use Prim.Native.Nat.{◌+◌, ◌-◌}
use native.Mathlib.Omega.{arith}
use Rattle.first_stages.proofs.given.GivenLaws.{add_start, regular_at, regular_first, add_next, add_end}
use Rattle.first_stages.proofs.given.add_all_given.Goals as goal

pub loop-init : goal.loop-init
loop-init c = let p = c.requires.1 in let z : c.args.count - 0 ≡ c.args.count = omega arith in rw z (add_start _ _ _ _ p.0 p.1)

pub next_at-next-requires : goal.next_at-next-requires
next_at-next-requires c = let i = c.loop.invariant in regular_at _ _ _ _ (omega (arith, c.loop-test.true)) i.regular

pub add_given-grown-requires : goal.add_given-grown-requires
add_given-grown-requires c =
    let i = c.loop.invariant in
    let p = c.requires.0 in
    let d = i.holds p.0 p.1 in
    let f = regular_first _ _ _ _ (omega (arith, c.loop-test.true)) i.regular in
    ((d.0, d.1), f.map, c.next_at-next.ensures, rw c.next_at-next.ensures f.whole)

pub loop-preserved : goal.loop-preserved
loop-preserved c =
    let z : c.args.count - (c.loop.counter + 1) ≡ c.args.count - c.loop.counter - 1 = omega arith in
    rw z (add_next c.loop.invariant (omega (arith, c.loop-test.true)) c.next_at-next.ensures c.add_given-grown.auto.work c.add_given-grown.ensures.0 c.add_given-grown.ensures.1)

pub returns : goal.returns
returns c = let i = c.loop.invariant in (i.frame, add_end i (omega (arith, c.loop-test.false)))
