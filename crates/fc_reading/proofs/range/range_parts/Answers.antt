use Rattle.std.proofs.Common.{◌∙◌, None, ap, map, refl}
use Rattle.fc_request.specs.FacetNode.{kind_view}
use Rattle.fc_spec.specs.replies.Printed.{asked}
use Rattle.fc_spec.specs.requests.Buckets.{after, before, between}
use Rattle.fc_reading.proofs.RangeParts.{all_parts, part_on}
use Rattle.fc_reading.proofs.range.range_parts.Goals as goal

pub returns-clause-parts : goal.returns-clause-parts
returns-clause-parts g c = λ inner.
    let R = g.R.BucketReading.reading c.args.reading.now in
    let shards = c.args.shards.now in
    let Y = g.R.BucketReading.over c.args.domain.now in
    let kind = kind_view c.args.kind.now in
    let on = part_on R inner shards Y kind c.requires.range None in
    all_parts R inner shards Y kind c.requires.range g.R.BucketReading.held
    (record { list = c.in_ok-list.list; missing = None; before = c.in_ok-before.before; between = c.in_ok-between.between; after = c.in_ok-after.after })
    refl (c.in_ok-list.ensures.parts inner) (c.in_ok-before.ensures.part ∙ ap (λ b. map on (asked b before)) c.buckets_of_range-buckets.ensures.before)
    (c.in_ok-between.ensures.part ∙ ap (λ b. map on (asked b between)) c.buckets_of_range-buckets.ensures.between) (c.in_ok-after.ensures.part ∙ ap (λ b. map on (asked b after)) c.buckets_of_range-buckets.ensures.after)
