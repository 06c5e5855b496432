-- `call::add_numbers_by` meets its contract, by what the checks find and where the stages lead. Assumes nothing.
use lib.ListN.{length}
use Rattle.std.proofs.lemmas.Result.{err_from_is_err_and}
use Rattle.call.specs.Checks.{Accepted, CallCheckIs, CallCheckIndexed}
use Rattle.call.proofs.AnswerLaws.{stages_lead, answer_short, answer_refused, answer_sound}
use Rattle.call.proofs.add_numbers_by.Goals as goal

pub returns-then-work-lt-WORK_SIZE : goal.returns-then-work-lt-WORK_SIZE
returns-then-work-lt-WORK_SIZE c = answer_short _ _ _ _ _ _ c.if-work-lt-WORK_SIZE.true

pub run_stages-stages-requires : goal.run_stages-stages-requires
unfolding CallCheckIs CallCheckIndexed
run_stages-stages-requires c = (c.if-work-lt-WORK_SIZE.false, c.in_ok-chars.ensures.call_check_is, c.in_ok-chars.ensures.indexed)

pub finish_call-requires : goal.finish_call-requires
finish_call-requires c = (_, stages_lead _ _ _ _ (length c.args.out.now) c.args.kind _ c.run_stages-stages.ensures)

pub returns-in_err-chars : goal.returns-in_err-chars
returns-in_err-chars c =
    let p = err_from_is_err_and c.from_residual.result c.from_residual.ensures.1 in
    rw (p.1, p.2) (answer_refused _ _ _ _ _ _ c.if-work-lt-WORK_SIZE.false _ c.in_err-chars.ensures.call_check_is)

pub returns : goal.returns
unfolding CallCheckIs
returns c =
    let sound : Accepted c.args.line.now c.args.table.now c.args.edges.now c.in_ok-chars.chars c.in_ok-chars.shape c.in_ok-chars.count = c.in_ok-chars.ensures.call_check_is in
    answer_sound _ _ _ _ _ _ c.if-work-lt-WORK_SIZE.false sound _ _ (c.finish_call.ensures _ (stages_lead _ _ _ _ (length c.args.out.now) c.args.kind _ c.run_stages-stages.ensures))
