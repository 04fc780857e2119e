use Rattle.std.proofs.Common.{◌≡◌, length, sym, ap, subst, ◌∙◌}
use Rattle.fc_spec.specs.documents.Sets.{places_on}
use Rattle.fc_spec.specs.requests.DomainSets.{bucket_set}
use Rattle.fc_kind.specs.Collecting.{BucketsAddUp}
use Rattle.fc_partial.specs.View.{key_view}
use Rattle.fc_request.specs.FacetNode.{facet_view, kind_of, kind_view}
use Rattle.fc_request.specs.RequestView.{request_view}
use Rattle.fc_jobs.specs.Pieces.{piece_of}
use Rattle.fc_jobs.specs.Scopes.{scope_over}
use Rattle.fc_jobs.specs.Walked.{domain_set}
use Rattle.fc_jobs.proofs.KeptLengths.{bucket_length}
use Rattle.fc_jobs.proofs.facets.facet_unit.Goals as goal

pub changed-requires-clause-docs : goal.changed-requires-clause-docs
changed-requires-clause-docs g c =
    ap length c.in_ok-bucket.ensures ∙ bucket_length (kind_view (kind_of c.args.around.now)) (key_view c.args.key.now) c.args.segment.now.blocks c.args.docs.now c.requires.length

pub collect-requires-clause-add_up : goal.collect-requires-clause-add_up
collect-requires-clause-add_up g c =
    let blocks = c.args.segment.now.blocks in
    let o = scope_over (request_view c.args.request.now) c.args.enclosing.now in
    let p = piece_of c.args.segment.now in
    let set : c.in_ok-set.set ≡ domain_set o p (facet_view c.args.node.now) (bucket_set (kind_view (kind_of c.args.around.now)) (key_view c.args.key.now) blocks c.args.docs.now) =
    c.in_ok-set.ensures.set ∙ ap (domain_set o p (facet_view c.args.node.now)) c.in_ok-bucket.ensures in
    subst (λ s. BucketsAddUp (kind_view (kind_of c.args.node.now)) c.args.tally.now.stats (places_on 0 blocks s) c.args.tally.now.entries) (sym set) c.requires.add_up
