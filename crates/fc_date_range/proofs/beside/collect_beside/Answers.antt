use Rattle.std.proofs.Common.{◌≡◌, ◌&&◌, true, ap, rules}
use Rattle.fc_spec.specs.documents.Sets.{places_on}
use Rattle.fc_spec.specs.messages.KeyOrder.{same_key}
use Rattle.fc_spec.specs.requests.Request as kind
use Rattle.fc_facet.specs.KindView.{date_range_view}
use Rattle.fc_partial.specs.View.{key_view}
use Rattle.fc_kind.proofs.CollectedParts.{among_same}
use Rattle.fc_date_range.proofs.beside.collect_beside.Goals as goal

pub collect_bucket-requires-clause-add_up : goal.collect_bucket-requires-clause-add_up
collect_bucket-requires-clause-add_up c =
    let asked : c.args.asked ≡ true = search rules in
    c.requires.add_up asked

pub returns : goal.returns
returns c =
    let k = kind.date_range (date_range_view c.args.range.now) in
    let key = key_view c.args.key in
    let old = c.args.into.now in
    let Y = places_on 0 c.args.segment.now.blocks c.args.docs.now in
    let asked : c.args.asked ≡ true = search rules in
    among_same (λ q. same_key q key) (λ q. c.args.asked && same_key q key) k old.stats Y old c.collect_bucket.new.into (λ q. ap (λ b. b && same_key q key) asked) c.in_ok-collect_bucket.ensures
