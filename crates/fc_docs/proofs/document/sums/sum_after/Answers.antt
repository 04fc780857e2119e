use Rattle.std.proofs.Common.{◌+◌, map, arith, sym, ◌∙◌, ap}
use Rattle.std.specs.List.{sum_by}
use Rattle.std.proofs.lemmas.List.{take_all}
use Rattle.std.proofs.lemmas.List.Sums.{sum_by_more_le}
use Rattle.fc_spec.specs.scripts.ScriptTotals.{total_limit}
use Rattle.fc_base.specs.View.{val_view}
use Rattle.fc_docs.specs.Sums.{absolute_row, absolute_value}
use Rattle.fc_docs.proofs.AbsoluteSums.{row_by_value, sum_grown, sum_outgrown, not_more}
use Rattle.fc_docs.proofs.document.sums.sum_after.Goals as goal

pub returns-in_err-total : goal.returns-in_err-total
returns-in_err-total c =
    let row = row_by_value c.args.values.now in
    let more = sum_by_more_le (λ v. absolute_value (val_view v)) c.args.values.now c.loop-value.value-index c.value-item.result (omega arith) in
    let here = ap (λ v. absolute_value (val_view v)) c.value-item.is in
    let past = not_more (c.loop-value.total + absolute_value (val_view c.value-item.result)) total_limit (sym c.in_err-total.ensures) in
    c.from_residual.ensures ∙ sum_outgrown (c.args.sum + absolute_row (map val_view c.args.values.now)) total_limit (omega arith)

pub returns : goal.returns
returns c =
    let row = row_by_value c.args.values.now in
    let all = ap (sum_by (λ v. absolute_value (val_view v))) (take_all c.loop-value.value-index c.args.values.now (omega arith)) in
    sum_grown c.loop-value.total (c.args.sum + absolute_row (map val_view c.args.values.now)) total_limit (omega arith) (omega arith)
