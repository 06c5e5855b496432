use Prim.Native.Nat.{◌+◌, ◌-◌}
use mathlib.Core.Path.{◌≡◌}
use native.Mathlib.Omega.{arith}
use Rattle.nearest_number.proofs.NearestLaws.{walk_edge, walk_at, walk_taken, walk_passed, walk_found}
use Rattle.nearest_number.proofs.nearest_of.Goals.{then-replaces_held, else-replaces_held}
use Rattle.nearest_number.proofs.nearest_of.Goals as goal

pub replaces_held-requires : goal.replaces_held-requires
replaces_held-requires c = let w = c.loop.invariant in (walk_edge w (omega arith), w.spanned)

pub next_at-at-requires : goal.next_at-at-requires
next_at-at-requires c = walk_at c.loop.invariant (omega arith)

pub loop-preserved : goal.loop-preserved
loop-preserved c =
    let w = c.loop.invariant in
    let one_less : c.args.count - (c.loop.counter + 1) ≡ c.args.count - c.loop.counter - 1 = omega arith in
    rw one_less
    (elim c.if-replaces_held.branch [
      | then-replaces_held a ↦ walk_taken w (omega arith) c.replaces_held.ensures c.next_at-at.ensures a.if-replaces_held.true a.held-is
      | else-replaces_held a ↦ walk_passed w (omega arith) c.replaces_held.ensures c.next_at-at.ensures a.if-replaces_held.false a.held-is
    ])

pub returns : goal.returns
returns c = walk_found c.loop.invariant (omega arith)
