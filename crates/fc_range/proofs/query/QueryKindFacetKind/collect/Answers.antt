use Rattle.std.proofs.Common.{◌≡◌, ◌∙◌, List, sym, ap, subst}
use Rattle.fc_spec.specs.documents.Sets.{places_on}
use Rattle.fc_spec.specs.documents.World.{Place}
use Rattle.fc_spec.specs.requests.Buckets.{bucket_places, whole}
use Rattle.fc_spec.specs.requests.Statistics.{stats_over}
use Rattle.fc_partial.specs.Adding.{AddUp}
use Rattle.fc_request.specs.FacetNode.{kind_of, kind_view}
use Rattle.fc_kind.specs.Collecting.{GrowsBy}
use Rattle.fc_kind.proofs.BucketPlaces.{bucket_picked}
use Rattle.fc_range.proofs.Whole.{query_of, whole_alone, whole_key}
use Rattle.fc_range.proofs.query.QueryKindFacetKind.collect.Goals as goal

pub add_documents-requires-clause-add_up : goal.add_documents-requires-clause-add_up
add_documents-requires-clause-add_up c = λ x there.
    let k = kind_view (kind_of c.args.node.now) in
    let blocks = c.args.segment.now.blocks in
    let own : bucket_places k whole (places_on 0 blocks c.args.docs.now) ≡ places_on 0 blocks c.select.new.into = bucket_picked k whole blocks c.args.docs.now ∙ ap (places_on 0 blocks) (sym c.in_ok-select.ensures.set) in
    subst (λ (X : List Place). AddUp x (stats_over c.args.into.now.stats X)) own (c.requires.add_up whole (whole_key (kind_of c.args.node.now) c.requires.kind) x there)

pub returns : goal.returns
returns c =
    let k = kind_view (kind_of c.args.node.now) in
    let blocks = c.args.segment.now.blocks in
    let old = c.args.into.now in
    let new = c.add_documents.new.into in
    let Y = places_on 0 blocks c.args.docs.now in
    let own : bucket_places k whole Y ≡ places_on 0 blocks c.select.new.into = bucket_picked k whole blocks c.args.docs.now ∙ ap (places_on 0 blocks) (sym c.in_ok-select.ensures.set) in
    let grows : GrowsBy whole (bucket_places k whole Y) old new = subst (λ (X : List Place). GrowsBy whole X old new) (sym own) c.in_ok-add_documents.ensures in
    let q = query_of (kind_of c.args.node.now) c.requires.kind in
    whole_alone k q.0 q.1 Y old new grows
