use Rattle.std.proofs.Common.{◌≡◌, ◌∙◌, List, sym, ap, subst}
use Rattle.fc_spec.specs.documents.Sets.{places_on}
use Rattle.fc_spec.specs.documents.World.{Place}
use Rattle.fc_spec.specs.requests.Buckets.{bucket_places}
use Rattle.fc_spec.specs.requests.Request as kind
use Rattle.fc_spec.specs.requests.Statistics.{stats_over}
use Rattle.fc_facet.specs.KindView.{date_range_view}
use Rattle.fc_partial.specs.Adding.{AddUp}
use Rattle.fc_partial.specs.View.{key_view}
use Rattle.fc_kind.specs.Collecting.{GrowsBy}
use Rattle.fc_kind.proofs.BucketPlaces.{bucket_picked}
use Rattle.fc_kind.proofs.CollectedParts.{one_bucket}
use Rattle.fc_date_range.proofs.beside.collect_bucket.Goals as goal

pub add_documents-requires-clause-add_up : goal.add_documents-requires-clause-add_up
add_documents-requires-clause-add_up c = λ x there.
    let k = kind.date_range (date_range_view c.args.range.now) in
    let key = key_view c.args.key in
    let blocks = c.args.segment.now.blocks in
    let picked : bucket_places k key (places_on 0 blocks c.args.docs.now) ≡ places_on 0 blocks c.select_bucket.new.into = bucket_picked k key blocks c.args.docs.now ∙ ap (places_on 0 blocks) (sym c.select_bucket.ensures.set) in
    subst (λ (X : List Place). AddUp x (stats_over c.args.into.now.stats X)) picked (c.requires.add_up x there)

pub returns : goal.returns
returns c =
    let k = kind.date_range (date_range_view c.args.range.now) in
    let key = key_view c.args.key in
    let blocks = c.args.segment.now.blocks in
    let old = c.args.into.now in
    let new = c.add_documents.new.into in
    let Y = places_on 0 blocks c.args.docs.now in
    let picked : bucket_places k key Y ≡ places_on 0 blocks c.select_bucket.new.into = bucket_picked k key blocks c.args.docs.now ∙ ap (places_on 0 blocks) (sym c.select_bucket.ensures.set) in
    one_bucket k key Y old new (subst (λ (X : List Place). GrowsBy key X old new) (sym picked) c.in_ok-add_documents.ensures)
