use native.Mathlib.Omega.{arith}
use lib.ListN.{get_or}
use Rattle.markers.proofs.FoldedBytesLaws.{Counts, counts_other, neither_leads, walk_starts, walk_short, walk_ends, walk_differs, walk_turns}
use Rattle.markers.proofs.stands.Goals as goal

pub loop-next-init : goal.loop-next-init
loop-next-init c = walk_starts _ _ _ c.requires

pub returns-then-line-here : goal.returns-then-line-here
returns-then-line-here c = walk_short _ _ _ _ _ c.loop-next.invariant c.if-line-here.true c.loop-next-test.true

pub bounds-line-here : goal.bounds-line-here
bounds-line-here c = c.if-line-here.false

pub bounds-marker-next : goal.bounds-marker-next
bounds-marker-next c = c.loop-next-test.true

pub counted_at-found_counted-requires : goal.counted_at-found_counted-requires
counted_at-found_counted-requires c = c.if-line-here.false

pub counted_at-asked_counted-requires : goal.counted_at-asked_counted-requires
counted_at-asked_counted-requires c = c.loop-next-test.true

pub returns-then-found_counted-asked_counted : goal.returns-then-found_counted-asked_counted
returns-then-found_counted-asked_counted c = walk_differs _ _ _ _ _ c.loop-next.invariant c.counted_at-found_counted.ensures c.counted_at-asked_counted.ensures c.if-found_counted-asked_counted.true

pub overflow_add-here : goal.overflow_add-here
overflow_add-here c = omega (arith, c.counted_at-found_counted.ensures.1)

pub overflow_add-next : goal.overflow_add-next
overflow_add-next c = omega (arith, c.counted_at-asked_counted.ensures.1, c.well_formed)

pub loop-next-smaller-then-found-asked : goal.loop-next-smaller-then-found-asked
loop-next-smaller-then-found-asked c = omega (arith, c.counted_at-asked_counted.ensures.0, c.counted_at-asked_counted.ensures.1)

pub loop-next-preserved-then-found-asked : goal.loop-next-preserved-then-found-asked
loop-next-preserved-then-found-asked c = walk_turns _ _ _ _ _ c.loop-next.invariant c.counted_at-found_counted.ensures c.counted_at-asked_counted.ensures c.if-found_counted-asked_counted.false

pub returns-then-found-asked-2 : goal.returns-then-found-asked-2
returns-then-found-asked-2 c =
    let themselves : let a = c.args in Counts a.line.now c.loop-next.here (get_or a.line.now c.loop-next.here 0) 1 × Counts a.marker.now c.loop-next.next (get_or a.marker.now c.loop-next.next 0) 1 =
    let n = neither_leads _ _ c.if-found-asked.false in
    (counts_other _ _ c.if-line-here.false n.0, counts_other _ _ c.loop-next-test.true n.1) in
    let f = themselves in
    walk_differs _ _ _ _ _ c.loop-next.invariant f.0 f.1 c.if-found-asked-2.true

pub overflow_add-here-else-found-asked : goal.overflow_add-here-else-found-asked
overflow_add-here-else-found-asked c =
    let themselves : let a = c.args in Counts a.line.now c.loop-next.here (get_or a.line.now c.loop-next.here 0) 1 × Counts a.marker.now c.loop-next.next (get_or a.marker.now c.loop-next.next 0) 1 =
    let n = neither_leads _ _ c.if-found-asked.false in
    (counts_other _ _ c.if-line-here.false n.0, counts_other _ _ c.loop-next-test.true n.1) in
    omega (arith, themselves.0.1)

pub overflow_add-next-else-found-asked : goal.overflow_add-next-else-found-asked
overflow_add-next-else-found-asked c =
    let themselves : let a = c.args in Counts a.line.now c.loop-next.here (get_or a.line.now c.loop-next.here 0) 1 × Counts a.marker.now c.loop-next.next (get_or a.marker.now c.loop-next.next 0) 1 =
    let n = neither_leads _ _ c.if-found-asked.false in
    (counts_other _ _ c.if-line-here.false n.0, counts_other _ _ c.loop-next-test.true n.1) in
    omega (arith, themselves.1.1)

pub loop-next-smaller : goal.loop-next-smaller
loop-next-smaller c =
    let themselves : let a = c.args in Counts a.line.now c.loop-next.here (get_or a.line.now c.loop-next.here 0) 1 × Counts a.marker.now c.loop-next.next (get_or a.marker.now c.loop-next.next 0) 1 =
    let n = neither_leads _ _ c.if-found-asked.false in
    (counts_other _ _ c.if-line-here.false n.0, counts_other _ _ c.loop-next-test.true n.1) in
    omega (arith, themselves.1.1)

pub loop-next-preserved : goal.loop-next-preserved
loop-next-preserved c =
    let themselves : let a = c.args in Counts a.line.now c.loop-next.here (get_or a.line.now c.loop-next.here 0) 1 × Counts a.marker.now c.loop-next.next (get_or a.marker.now c.loop-next.next 0) 1 =
    let n = neither_leads _ _ c.if-found-asked.false in
    (counts_other _ _ c.if-line-here.false n.0, counts_other _ _ c.loop-next-test.true n.1) in
    let f = themselves in
    walk_turns _ _ _ _ _ c.loop-next.invariant f.0 f.1 c.if-found-asked-2.false

pub returns : goal.returns
returns c = walk_ends _ _ _ _ _ c.loop-next.invariant c.loop-next-test.false
