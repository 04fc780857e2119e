use Rattle.std.proofs.Common.{◌∙◌, ◌++◌, ap, map}
use Rattle.fc_request.specs.FacetNode.{kind_view}
use Rattle.fc_spec.specs.replies.Printed.{asked}
use Rattle.fc_spec.specs.requests.Buckets.{after, before, between}
use Rattle.fc_lacks.specs.Keys.{keyed_on, keyed_view}
use Rattle.fc_lacks.proofs.KeyedBuckets.{range_keyed}
use Rattle.fc_lacks.proofs.keyed.keyed_range.Goals as goal

pub returns-clause-keyed : goal.returns-clause-keyed
returns-clause-keyed g c = λ inner.
    let R = g.R.BucketReading.reading c.args.reading.now in
    let shards = c.args.shards.now in
    let Y = g.R.BucketReading.over c.args.domain.now in
    let kind = kind_view c.args.kind.now in
    let see = map (keyed_view g.R.BucketReading.held) in
    let on = map (keyed_on R kind shards Y) in
    let gaps = see c.in_ok-list.list.items in
    let first = see c.push_asked.new.list.items in
    let second = see c.push_asked-2.new.list.items in
    range_keyed R inner shards Y kind c.requires.range gaps first second (see c.push_asked-3.new.list.items) c.in_ok-list.ensures.keyed
    (c.in_ok-push_asked.ensures.keyed ∙ ap (λ b. gaps ++ on (asked b before)) c.buckets_of_range-buckets.ensures.before)
    (c.in_ok-push_asked-2.ensures.keyed ∙ ap (λ b. first ++ on (asked b between)) c.buckets_of_range-buckets.ensures.between)
    (c.in_ok-push_asked-3.ensures.keyed ∙ ap (λ b. second ++ on (asked b after)) c.buckets_of_range-buckets.ensures.after)

pub returns-clause-counted : goal.returns-clause-counted
returns-clause-counted g c = c.in_ok-push_asked-3.ensures.counted (c.in_ok-push_asked-2.ensures.counted (c.in_ok-push_asked.ensures.counted c.in_ok-list.ensures.counted))
