use Rattle.std.proofs.Common.{length, map, sym, ap, subst, ◌∙◌}
use Rattle.fc_spec.specs.documents.Sets.{places_on}
use Rattle.fc_base.specs.StatisticView.{stat_view}
use Rattle.fc_partial.specs.Adding.{HasShape}
use Rattle.fc_partial.specs.View.{key_view}
use Rattle.fc_partial.proofs.NeutralCells.{shape_over}
use Rattle.fc_request.specs.FacetNode.{kind_of, kind_view}
use Rattle.fc_jobs.proofs.KeptLengths.{bucket_length}
use Rattle.fc_jobs.proofs.buckets.bucket_unit.Goals as goal

pub set_stats-requires-clause-length : goal.set_stats-requires-clause-length
set_stats-requires-clause-length g c =
    ap length c.in_ok-bucket.ensures ∙ bucket_length (kind_view (kind_of c.args.node.now)) (key_view c.args.key.now) c.args.segment.now.blocks c.args.docs.now c.requires.length

pub combine-requires-clause-other_shaped : goal.combine-requires-clause-other_shaped
combine-requires-clause-other_shaped g c =
    subst (HasShape (map stat_view c.args.stats.now)) (sym c.in_ok-here.ensures) (shape_over (map stat_view c.args.stats.now) (places_on 0 c.args.segment.now.blocks c.in_ok-bucket.bucket))
