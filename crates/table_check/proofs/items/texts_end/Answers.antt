use mathlib.Core.Path.{sym, ◌∙◌}
use native.Mathlib.Omega.{arith}
use Rattle.std.proofs.lemmas.Result.{err_from_is_err_and}
use Rattle.table.proofs.CheckLaws.{texts_none, texts_turn, texts_stop}
use Rattle.table_check.proofs.items.texts_end.Goals as goal

pub loop-preserved : goal.loop-preserved
loop-preserved c = sym (texts_turn _ _ c.args.n c.loop.counter (omega arith) c.in_ok-at.ensures) ∙ c.loop.invariant

pub returns-in_err-at : goal.returns-in_err-at
returns-in_err-at c =
    let p = err_from_is_err_and c.from_residual.result c.from_residual.ensures.1 in
    rw (p.1, p.2) (texts_stop _ _ _ (omega arith) c.in_err-at.ensures ∙ c.loop.invariant)

pub returns : goal.returns
returns c = texts_none _ _ _ (omega arith) ∙ c.loop.invariant
