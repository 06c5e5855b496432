use mathlib.Core.Path.{◌≡◌, refl, sym, subst, ◌∙◌}
use native.Mathlib.Omega.{arith}
use Prim.Native.Nat.{◌+◌, ◌-◌, ◌<◌}
use Rattle.std.proofs.lemmas.Result.{err_from_is_err_and}
use Rattle.std.proofs.Common.{rules}
use Rattle.table.specs.Check.{refusal_at}
use Rattle.table.proofs.CheckLaws.{records_none, records_stop}
use Rattle.record_check.specs.RecordCheck.{RecordCheckIs}
use Rattle.table_check.specs.Indexed.{ItemsIndexed}
use Rattle.table_check.proofs.items.StepLaws.{passed_turn, making_none, making_index, making_more, item_passed, item_refused}
use Rattle.table_check.proofs.items.records_end.Goals as goal

pub loop-i-init : goal.loop-i-init
loop-i-init c = let all : c.args.n - 0 ≡ c.args.n = omega arith in rw all (refl, making_none _ _ _ _ c.requires, c.requires)

pub mark_char-requires : goal.mark_char-requires
mark_char-requires c = c.loop-i.invariant.2

pub index_record-index-requires : goal.index_record-index-requires
index_record-index-requires c =
    let v = c.loop-i.invariant in
    (v.1.next, omega arith, c.mark_char.auto.offs ∙ v.2)

pub loop-i-preserved : goal.loop-i-preserved
loop-i-preserved c =
    let p = subst (RecordCheckIs _ _ _) (item_passed c.record_item.result _ c.map_err.ensures.cases c.in_ok-code.was) c.record_item.ensures in
    let some_left : 0 < c.args.n - c.loop-i.i = omega arith in
    let left : c.args.n - (c.loop-i.i + 1) ≡ c.args.n - c.loop-i.i - 1 = omega arith in
    rw left (
      sym (passed_turn _ _ _ _ some_left p) ∙ c.loop-i.invariant.0,
      making_more _ _ _ c.loop-i.invariant.1 p some_left c.loop-i.invariant.2 c.mark_char.ensures c.mark_char.auto.offs c.index_record-index.ensures.next c.index_record-index.ensures.grows c.index_record-index.ensures.marks,
      c.index_record-index.auto.offs ∙ c.mark_char.auto.offs ∙ c.loop-i.invariant.2,
    )

pub shape_of-offs-in_err-code : goal.shape_of-offs-in_err-code
shape_of-offs-in_err-code c = c.loop-i.invariant.2 ∙ sym c.requires

pub returns-in_err-code : goal.returns-in_err-code
unfolding ItemsIndexed
returns-in_err-code c =
    let p = err_from_is_err_and c.from_residual.result c.from_residual.ensures.1 in
    let e = item_refused c.record_item.result _ c.map_err.ensures.cases c.in_err-code.was in
    let refusal : c.in_err-code.field-0.0 ≡ refusal_at e.0 c.loop-i.at = let k = e.2 in search rules in
    rw (p.1, p.2, refusal)
    (record {
      value = records_stop _ _ _ _ (omega arith) (subst (RecordCheckIs _ _ _) e.1 c.record_item.ensures) ∙ c.loop-i.invariant.0;
      indexed = tt;
    })

pub shape_of-offs : goal.shape_of-offs
shape_of-offs c = c.loop-i.invariant.2 ∙ sym c.requires

pub returns : goal.returns
unfolding ItemsIndexed
returns c =
    record {
      value = records_none _ _ _ _ (omega arith) ∙ c.loop-i.invariant.0;
      indexed = making_index _ _ _ c.loop-i.invariant.1 (omega arith);
    }
