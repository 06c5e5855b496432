use Rattle.markers.proofs.AnyLaws.{texts_end, text_found, text_next, formed_rest}
use Rattle.markers.proofs.any.any_of.Goals as goal

pub returns-then-stands_somewhere : goal.returns-then-stands_somewhere
returns-then-stands_somewhere c = text_found _ _ _ c.loop-marker.invariant.2 c.in-Some.ensures.steps c.stands_somewhere.ensures c.if-stands_somewhere.true

pub loop-marker-preserved : goal.loop-marker-preserved
loop-marker-preserved c =
    let i = c.loop-marker.invariant in
    (tt, tt, text_next _ _ _ i.2 c.in-Some.ensures.steps c.stands_somewhere.ensures c.if-stands_somewhere.false, formed_rest i.3 c.in-Some.ensures.steps)

pub returns : goal.returns
returns c = texts_end _ _ _ c.loop-marker.invariant.2 c.in-None.ensures.steps.0
