-- `run_chain` meets its contract: the chain ends before the edge that it does not take, or at the end of the list. Assumes nothing.
use mathlib.Core.Path.{sym, ap, ◌∙◌}
use Rattle.std.specs.Prelude.{Ok}
use native.Mathlib.Omega.{arith}
use Rattle.pass_rules.proofs.chain.ChainLaws.{chain_edge}
use Rattle.pass_list.specs.Answers.{pass_of}
use Rattle.pass_list.proofs.read.FieldLaws.{stored_at-fits}
use Rattle.pass_run.specs.Run.{First, RunIs}
use Rattle.pass_run.proofs.RunLaws.{small_one, opens, takes, ends, above, closes, ended_put}
use Rattle.pass_run.proofs.run_chain.Goals as goal
use Rattle.pass_run.proofs.run_chain.Goals.{else-loop-j-test, then-loop-j-test+in-Ok-None}

pub read_edge-requires : goal.read_edge-requires
read_edge-requires c = (omega (arith, c.requires.1, c.requires.2), small_one _ _ _ _ (omega arith) c.requires.1 c.requires.3)

pub loop-j-init : goal.loop-j-init
loop-j-init c = opens _ _ _ _ _ c.requires.1 c.read_edge.ensures (c.begin-chain.ensures _ c.read_edge.ensures.is)

pub next_of_chain-requires : goal.next_of_chain-requires
next_of_chain-requires c =
    let g = c.loop-j.invariant in
    let h = c.loop-j-test.true in
    ((g.model, g.is), omega (arith, h, c.requires.2), small_one _ _ _ _ (omega (arith, g.later)) h c.requires.3)

pub loop-j-preserved : goal.loop-j-preserved
loop-j-preserved c =
    let g = c.loop-j.invariant in
    let h = c.loop-j-test.true in
    let small = small_one c.args.list.now c.args.i c.loop-j.j c.args.n (omega (arith, g.later)) h c.requires.3 in
    takes _ _ _ _ _ _ g h _ (stored_at-fits _ _ (λ q. (c.slice_known-1.given q).fits) small) (sym (c.in-Ok-Some.ensures _ g.is) ∙ ap Ok c.in-Ok-Some.field-0-is)

pub returns-in-Err : goal.returns-in-Err
unfolding RunIs
returns-in-Err c = let g = c.loop-j.invariant in above _ _ _ _ _ _ g c.loop-j-test.true (sym (c.in-Err.ensures _ g.is))

pub write_edge-requires : goal.write_edge-requires
write_edge-requires c = let g = c.loop-j.invariant in (omega (arith, c.requires.0, c.requires.1, c.requires.2), (g.model.edge, chain_edge g.is))

pub returns : goal.returns
unfolding RunIs
returns c =
    let g = c.loop-j.invariant in
    let first : First (pass_of c.args.pass) c.args.list.now c.args.n c.args.i c.loop-j.j g.model.edge = elim c.loop-j-test.branch [
      | else-loop-j-test w ↦ closes _ _ _ _ _ _ g w.loop-j-test.false
      | then-loop-j-test+in-Ok-None w ↦ ends _ _ _ _ _ _ g (sym (w.in-Ok-None.ensures _ g.is) ∙ ap Ok w.in-Ok-None.field-0-is)
    ] in
    record {
      over = g.model.edge;
      first = first;
      small = g.is.fits.small;
      ended = ended_put _ _ _ _ g.is.fits (omega (arith, c.requires.0, g.later)) (omega (arith, g.inside, c.requires.2)) (c.write_edge.ensures _ (chain_edge g.is));
    }
