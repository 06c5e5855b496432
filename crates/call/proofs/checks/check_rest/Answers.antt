-- `call::checks::check_rest` meets its contract, by what the table's check and the listing's answer. Assumes nothing.
use mathlib.Core.Path.{◌≡◌, subst}
use Rattle.std.proofs.lemmas.Result.{err_from_is_err_and}
use Rattle.text.specs.declared.Offset.{Offset}
use Rattle.table.specs.declared.shape.TableRefusal.{TableRefusal}
use Rattle.table_check.specs.Indexed.{TableIndexed}
use Rattle.answers.specs.declared.Refusal.TheVariants.{BadEdges}
use Rattle.call.specs.Checks.{of_table, CallCheckIndexed}
use Rattle.call.proofs.MapLaws.{mapped_err, mapped_ok}
use Rattle.call.proofs.checks.CheckLaws.{rest_table, rest_edges, rest_sound}
use Rattle.call.proofs.checks.check_rest.Goals as goal

pub returns-in_err-shape : goal.returns-in_err-shape
unfolding CallCheckIndexed
returns-in_err-shape c =
    let p = err_from_is_err_and c.from_residual.result c.from_residual.ensures.1 in
    let (e, is, made) = mapped_err c.check_table.result _ (λ (e : TableRefusal). c.in_err-shape.field-0.0 ≡ of_table e) c.in_err-shape.ensures.cases in
    rw (p.1, p.2) (record { rest_is = rest_table _ _ _ c.check_table.ensures.table_is.table is made; indexed = tt })

pub returns-in_err-count : goal.returns-in_err-count
unfolding CallCheckIndexed
returns-in_err-count c =
    let p = err_from_is_err_and c.from_residual-in_err-count.result c.from_residual-in_err-count.ensures.1 in
    let (e, is, made) = mapped_err c.check_listing.result _ (λ (e : Offset). c.in_err-count.field-0.0 ≡ BadEdges e) c.in_err-count.ensures.cases in
    rw (p.1, p.2, made) (record { rest_is = rest_edges _ _ _ c.check_table.ensures.table_is.table (mapped_ok _ _ _ c.in_ok-shape.ensures.cases) c.check_listing.ensures.is is; indexed = tt })

pub returns : goal.returns
unfolding CallCheckIndexed TableIndexed
returns c =
    let shape = mapped_ok _ _ _ c.in_ok-shape.ensures.cases in
    record {
      rest_is = rest_sound _ _ _ c.check_table.ensures.table_is.table shape c.check_listing.ensures.is (mapped_ok _ _ _ c.in_ok-count.ensures.cases);
      indexed = subst (TableIndexed _ _ _) shape c.check_table.ensures.indexed;
    }
