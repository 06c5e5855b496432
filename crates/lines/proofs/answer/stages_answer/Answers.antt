-- `lines::answer::stages_answer` meets its contract, by what the stages and the finished lattice answer. Assumes nothing.
use mathlib.Core.Path.{◌≡◌, subst}
use Rattle.std.proofs.lemmas.Result.{err_from_is_err_and}
use Rattle.text.specs.Text.{chars}
use Rattle.text.specs.declared.Place.{Place}
use Rattle.table.specs.Answers.{table_of}
use Rattle.edge.specs.Layout.{listed}
use Rattle.numbers.specs.Call.{no_edges}
use Rattle.answers.specs.declared.Refusal.TheVariants.{AboveTop}
use Rattle.call.specs.declared.stages.CallKind.TheVariants.{First}
use Rattle.call.specs.Stages.{StagesAre}
use Rattle.call.proofs.MapLaws.{mapped_err, mapped_ok}
use Rattle.lines.proofs.AnswerLaws.{left_above, left_made, accepted}
use Rattle.lines.proofs.answer.stages_answer.Goals as goal

pub run_stages-requires : goal.run_stages-requires
run_stages-requires c = (c.requires.0, accepted c.requires.1, c.requires.2)

pub returns-in_err-lattice : goal.returns-in_err-lattice
unfolding StagesAre
returns-in_err-lattice c =
    let s = c.args in
    let p = err_from_is_err_and c.from_residual.result c.from_residual.ensures.1 in
    let (e, is, made) = mapped_err c.run_stages.result _ (λ (e : Place). c.in_err-lattice.field-0.0 ≡ AboveTop e) c.in_err-lattice.ensures.cases in
    rw (p.1, p.2, made) (left_above _ _ _ _ e (subst (StagesAre First (table_of s.table.now s.shape) (chars s.line.now) (listed no_edges) c.run_stages.new.work) is c.run_stages.ensures))

pub returns : goal.returns
unfolding StagesAre
returns c =
    let s = c.args in
    let m = subst (StagesAre First (table_of s.table.now s.shape) (chars s.line.now) (listed no_edges) c.run_stages.new.work) (mapped_ok _ c.run_stages.result _ c.in_ok-lattice.ensures.cases) c.run_stages.ensures in
    left_made (table_of s.table.now s.shape) (chars s.line.now) (listed no_edges) c.run_stages.new.work c.finished_answer.result m.0 (c.finished_answer.ensures _ _ m.1)
