use Rattle.std.proofs.Common.{◌∙◌, map, ap, sym}
use Rattle.std.specs.Ordering.{is_eq}
use Rattle.fc_spec.specs.messages.KeyOrder.{same_key}
use Rattle.fc_spec.specs.messages.MessageShape.{values_fit, rows_fit}
use Rattle.fc_spec.specs.requests.Ranks.{offered_bound}
use Rattle.fc_spec.specs.requests.Request.{stats_of}
use Rattle.fc_partial.specs.BucketView.{rows_view}
use Rattle.fc_partial.specs.View.{key_view, stat_value_view}
use Rattle.fc_partial.specs.declared.bucket.PartialBucket.{out-PartialBucket}
use Rattle.fc_request.specs.NodeView.{nodes_view}
use Rattle.fc_refine.proofs.Shapes.{top_is, both_and}
use Rattle.fc_refine.proofs.shape.top_fits.Goals as goal

pub returns : goal.returns
returns c =
    let N = nodes_view c.args.nodes.now in
    let b = out-PartialBucket c.args.bucket.now in
    let values = ap (λ l. values_fit (stats_of N) (map stat_value_view l)) (sym c.deref.ensures.value) ∙ sym c.values_fit.ensures ∙ c.if-not-values_fit.false in
    let key = ap is_eq (sym c.cmp.ensures) ∙ sym c.is_eq.ensures ∙ c.if-not-is_eq.false in
    sym (top_is (key_view c.args.key.now) N c.args.bucket.now
    ∙ both_and (same_key (key_view c.args.key.now) (key_view b.key)) (values_fit (stats_of N) (map stat_value_view b.stats.values.items)) (rows_fit offered_bound (rows_view b.nodes.items) N) key values
    ∙ ap (λ l. rows_fit offered_bound (rows_view l) N) (sym c.deref-2.ensures.value) ∙ sym c.rows_fit.ensures)
