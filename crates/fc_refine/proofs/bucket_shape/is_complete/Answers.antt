use Rattle.std.proofs.Common.{◌∙◌, ap, sym, not}
use Rattle.fc_spec.specs.messages.MessageShape.{is_complete}
use Rattle.fc_spec.specs.requests.Ranks.{offered_bound}
use Rattle.fc_partial.specs.BucketView.{buckets_view}
use Rattle.fc_request.specs.FacetNode.{kind_view}
use Rattle.fc_refine.proofs.Shapes.{nothing_is_empty}
use Rattle.fc_refine.proofs.bucket_shape.is_complete.Goals as goal

pub returns-in-Query : goal.returns-in-Query
returns-in-Query c = ap not c.is_empty.ensures ∙ nothing_is_empty c.args.all.now ∙ ap (λ k. is_complete offered_bound (kind_view k) (buckets_view c.args.all.now)) (sym c.in-Query.is)

pub returns-in-Stat : goal.returns-in-Stat
returns-in-Stat c = ap not c.is_empty-in-Stat.ensures ∙ nothing_is_empty c.args.all.now ∙ ap (λ k. is_complete offered_bound (kind_view k) (buckets_view c.args.all.now)) (sym c.in-Stat.is)
