-- `call::ending::finish_call` meets its contract, by what the stages and the lattice's end answer. Assumes nothing.
use mathlib.Core.Path.{◌≡◌, sym, subst}
use lib.ListN.{length}
use Rattle.std.proofs.lemmas.Result.{err_from_is_err_and}
use Rattle.std.proofs.Common.{rules}
use Rattle.std.specs.Prelude.{Result}
use Rattle.text.specs.declared.Place.{Place}
use Rattle.lattice.specs.declared.Lattice.{Lattice}
use Rattle.answers.specs.declared.Refusal.TheVariants.{AboveTop}
use Rattle.call.specs.Answers.{AnswerIs}
use Rattle.call.specs.Stages.{Leads}
use Rattle.call.proofs.MapLaws.{mapped_err, mapped_ok}
use Rattle.call.proofs.ending.EndLaws.{answer_above, answer_finished}
use Rattle.call.proofs.ending.finish_call.Goals as goal

pub returns-in_err-lattice : goal.returns-in_err-lattice
unfolding Leads
returns-in_err-lattice c =
    let p = err_from_is_err_and c.from_residual.result c.from_residual.ensures.1 in
    let e = mapped_err c.args.stages _ _ c.in_err-lattice.ensures.cases in
    let made : c.in_err-lattice.field-0.0 ≡ AboveTop e.0 = let k = e.2 in search rules in
    λ a q. rw (p.1, p.2, made) (answer_above _ e.0 (subst (λ (r : Result Lattice Place). Leads c.args.work.now (length c.args.out.now) r a) e.1 q))

pub finish-requires : goal.finish-requires
unfolding Leads
finish-requires c =
    let is = mapped_ok _ c.args.stages _ c.in_ok-lattice.ensures.cases in
    let (es, q, e) = subst (λ (r : Result Lattice Place). Leads c.args.work.now (length c.args.out.now) r c.requires.0) is c.requires.1 in
    (es, q)

pub returns-in_err-len : goal.returns-in_err-len
unfolding Leads
returns-in_err-len c =
    let p = err_from_is_err_and c.from_residual-in_err-len.result c.from_residual-in_err-len.ensures.1 in
    let is = mapped_ok _ c.args.stages _ c.in_ok-lattice.ensures.cases in
    λ a q.
    let (es, h, e) = subst (λ (r : Result Lattice Place). Leads c.args.work.now (length c.args.out.now) r a) is q in
    rw (p.1, p.2) (subst (AnswerIs _ _ _) (sym e) (answer_finished _ _ es _ (c.finish.ensures.answer es h) (c.finish.ensures.output es h) c.in_err-len.ensures.value))

pub returns : goal.returns
unfolding Leads
returns c =
    let is = mapped_ok _ c.args.stages _ c.in_ok-lattice.ensures.cases in
    λ a q.
    let (es, h, e) = subst (λ (r : Result Lattice Place). Leads c.args.work.now (length c.args.out.now) r a) is q in
    subst (AnswerIs _ _ _) (sym e) (answer_finished _ _ es _ (c.finish.ensures.answer es h) (c.finish.ensures.output es h) c.in_ok-len.ensures.value)
