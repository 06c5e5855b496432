use Rattle.std.proofs.Common.{ap, not}
use borrow.Author.Tests.{not-true, not-false}
use Rattle.edge.proofs.CheckLaws.{good_next, check_bad, check_good, check_left_over, check_ends, check_no_count, check_count, listing_answer}
use native.Mathlib.Omega.{arith}
use Prim.Native.Nat.{◌+◌, ◌-◌}
use mathlib.Core.Path.{◌≡◌, sym, ◌∙◌}
use Rattle.edge_check.proofs.check_listing.Goals as goal

pub returns-then-s-lt2 : goal.returns-then-s-lt2
returns-then-s-lt2 c = listing_answer _ _ _ (check_no_count _ _ _ c.if-s-lt2.true)

pub loop-init : goal.loop-init
loop-init c = let all : c.u16_at-count.result - 0 ≡ c.u16_at-count.result = omega arith in (omega arith, rw all (check_count _ _ _ (omega arith) c.u16_at-count.ensures))

pub edge_legal-requires : goal.edge_legal-requires
edge_legal-requires c = c.next_at-next.ensures

pub returns-then-not-edge_legal : goal.returns-then-not-edge_legal
returns-then-not-edge_legal c = listing_answer _ _ _ (check_bad _ _ _ _ _ (omega arith) (sym c.edge_legal.ensures ∙ not-true _ (ap not c.if-not-edge_legal.true)) ∙ c.loop.invariant.1)

pub loop-preserved : goal.loop-preserved
loop-preserved c =
    let fine = sym c.edge_legal.ensures ∙ not-false _ (ap not c.if-not-edge_legal.false) in
    let one : c.u16_at-count.result - (c.loop.counter + 1) ≡ c.u16_at-count.result - c.loop.counter - 1 = omega arith in
    (good_next _ _ _ _ c.next_at-next.ensures fine, rw one (check_good _ _ _ _ _ (omega arith) c.next_at-next.ensures fine ∙ c.loop.invariant.1))

pub returns-then-at-s : goal.returns-then-at-s
returns-then-at-s c = listing_answer _ _ _ (check_left_over _ _ _ _ _ (omega arith) (omega arith) ∙ c.loop.invariant.1)

pub returns : goal.returns
returns c = listing_answer _ _ _ (check_ends _ _ _ _ _ (omega arith) (omega arith) c.u16_at-count.ensures ∙ c.loop.invariant.1)
