use Rattle.std.proofs.Common.{map, refl, sym, ap, subst, ◌∙◌}
use Rattle.std.specs.Arc.{arc_value}
use Rattle.fc_spec.specs.documents.Sets.{places_on}
use Rattle.fc_spec.specs.requests.DomainSets.{bucket_set}
use Rattle.fc_kind.specs.Collecting.{BucketsAddUp}
use Rattle.fc_partial.specs.View.{key_view}
use Rattle.fc_request.specs.FacetNode.{facet_view, kind_of, kind_view}
use Rattle.fc_request.specs.RequestView.{request_view}
use Rattle.fc_jobs.specs.Scopes.{AllEnclosingFit, scope_over}
use Rattle.fc_jobs.specs.Walked.{domain_set}
use Rattle.fc_jobs.specs.Pieces.{piece_of, pieces_in}
use Rattle.fc_units.specs.declared.jobs.FacetJob.{FacetJob}
use Rattle.fc_units.proofs.FacetSteps.{facet_add_up, facet_around, facet_base, facet_bound, facet_kept, facet_key, facet_levels, facet_limits, facet_long, facet_node, facet_nodes, facet_stats, facet_stepped}
use Rattle.fc_units.proofs.Segments.{piece_at, vec_count, vec_within}
use Rattle.fc_units.proofs.units.facet_segment.Goals as goal

pub returns-in_default-clause-stepped : goal.returns-in_default-clause-stepped
returns-in_default-clause-stepped g c = λ s st. facet_kept s _ _ _ _ _ _ _ (vec_count c.args.job.now.domain _ c.len-at.ensures) c.in_default.ensures st

pub innermost-level-requires : goal.innermost-level-requires
innermost-level-requires g c = c.requires.stands.1.is_job.some

pub index-requires : goal.index-requires
index-requires g c = vec_within c.innermost-level.result.now.domain c.len-at.result (facet_bound _ _ _ _ _ _ _ _ (vec_count c.args.job.now.domain _ c.len-at.ensures) _ _ c.in-Some.ensures c.requires.stands.1 _ c.innermost-level.ensures)

pub facet_unit-requires-clause-covers : goal.facet_unit-requires-clause-covers
facet_unit-requires-clause-covers g c = c.requires.covers

pub facet_unit-requires-clause-base : goal.facet_unit-requires-clause-base
facet_unit-requires-clause-base g c = facet_base _ _ _ _ _ _ _ _ (vec_count c.args.job.now.domain _ c.len-at.ensures) _ _ c.in-Some.ensures c.requires.stands.1

pub facet_unit-requires-clause-limits : goal.facet_unit-requires-clause-limits
facet_unit-requires-clause-limits g c = facet_limits _ _ _ _ _ _ _ _ (vec_count c.args.job.now.domain _ c.len-at.ensures) _ _ c.in-Some.ensures c.requires.stands.1

pub facet_unit-requires-clause-around : goal.facet_unit-requires-clause-around
facet_unit-requires-clause-around g c = facet_around _ _ _ _ _ _ _ _ (vec_count c.args.job.now.domain _ c.len-at.ensures) _ _ c.in-Some.ensures c.requires.stands.1 _ c.innermost-level.ensures

pub facet_unit-requires-clause-key : goal.facet_unit-requires-clause-key
facet_unit-requires-clause-key g c = facet_key _ _ _ _ _ _ _ _ (vec_count c.args.job.now.domain _ c.len-at.ensures) _ _ c.in-Some.ensures c.requires.stands.1 _ c.innermost-level.ensures

pub facet_unit-requires-clause-length : goal.facet_unit-requires-clause-length
facet_unit-requires-clause-length g c = facet_long _ _ _ _ _ _ _ _ (vec_count c.args.job.now.domain _ c.len-at.ensures) _ _ c.in-Some.ensures c.requires.stands.1 _ c.innermost-level.ensures _ c.index.ensures

pub facet_unit-requires-clause-node : goal.facet_unit-requires-clause-node
facet_unit-requires-clause-node g c = facet_node _ _ _ _ _ _ _ _ (vec_count c.args.job.now.domain _ c.len-at.ensures) _ _ c.in-Some.ensures c.requires.stands.1

pub facet_unit-requires-clause-stats : goal.facet_unit-requires-clause-stats
facet_unit-requires-clause-stats g c = facet_stats _ _ _ _ _ _ _ _ (vec_count c.args.job.now.domain _ c.len-at.ensures) _ _ c.in-Some.ensures c.requires.stands.1

pub facet_unit-requires-clause-enclosing : goal.facet_unit-requires-clause-enclosing
facet_unit-requires-clause-enclosing g c =
    let at = vec_count c.args.job.now.domain _ c.len-at.ensures in
    subst (AllEnclosingFit c.in-Some.segment.now.texts) (sym c.deref.ensures.value)
    (c.in_ok-enclosing.ensures.fit c.in-Some.segment.now.texts (facet_nodes _ _ _ _ _ _ _ _ at _ _ c.in-Some.ensures c.requires.stands.1) (facet_levels _ _ _ _ _ _ _ _ at _ _ c.in-Some.ensures c.requires.stands.1))

pub facet_unit-requires-clause-add_up : goal.facet_unit-requires-clause-add_up
facet_unit-requires-clause-add_up g c =
    let blocks = c.in-Some.segment.now.blocks in
    let p = piece_of c.in-Some.segment.now in
    let bucket = bucket_set (kind_view (kind_of c.innermost-level.result.now.node.now)) (key_view c.innermost-level.result.now.key) blocks c.index.result.now in
    let same = ap (λ xs. domain_set (scope_over (request_view c.args.request.now) xs) p (facet_view c.args.job.now.node.now) bucket) c.deref.ensures.value ∙ c.in_ok-enclosing.ensures.domain p bucket in
    subst (λ set. BucketsAddUp (kind_view (kind_of c.args.job.now.node.now)) c.args.job.now.tally.stats (places_on 0 blocks set) c.args.job.now.tally.entries) (sym same)
    (facet_add_up _ _ _ _ _ _ _ _ (vec_count c.args.job.now.domain _ c.len-at.ensures) _ _ c.in-Some.ensures c.requires.stands.1 _ c.innermost-level.ensures _ c.index.ensures)

pub facet_unit-requires-clause-kept : goal.facet_unit-requires-clause-kept
facet_unit-requires-clause-kept g c = (pieces_in (map arc_value c.args.segments.now), piece_at (map arc_value c.args.segments.now) c.len-at.result c.in-Some.segment.now _ c.in-Some.ensures, c.requires.bases)

pub returns-in_err-docs-clause-bases : goal.returns-in_err-docs-clause-bases
returns-in_err-docs-clause-bases g c = c.facet_unit.ensures.kept _ (piece_at (map arc_value c.args.segments.now) c.len-at.result c.in-Some.segment.now _ c.in-Some.ensures) c.requires.bases

pub returns-in_err-push-clause-bases : goal.returns-in_err-push-clause-bases
returns-in_err-push-clause-bases g c = c.facet_unit.ensures.kept _ (piece_at (map arc_value c.args.segments.now) c.len-at.result c.in-Some.segment.now _ c.in-Some.ensures) c.requires.bases

pub returns-clause-bases : goal.returns-clause-bases
returns-clause-bases g c = c.facet_unit.ensures.kept _ (piece_at (map arc_value c.args.segments.now) c.len-at.result c.in-Some.segment.now _ c.in-Some.ensures) c.requires.bases

pub returns-clause-stepped : goal.returns-clause-stepped
returns-clause-stepped g c =
    let after : FacetJob = record c.args.job.now { domain = c.push.new.self; tally = c.facet_unit.new.tally } in
    let blocks = c.in-Some.segment.now.blocks in
    let p = piece_of c.in-Some.segment.now in
    let bucket = bucket_set (kind_view (kind_of c.innermost-level.result.now.node.now)) (key_view c.innermost-level.result.now.key) blocks c.index.result.now in
    let same = ap (λ xs. domain_set (scope_over (request_view c.args.request.now) xs) p (facet_view c.args.job.now.node.now) bucket) c.deref.ensures.value ∙ c.in_ok-enclosing.ensures.domain p bucket in
    let found = c.in_ok-docs.ensures.set ∙ same in
    λ s st. facet_stepped s _ _ _ _ _ _ _ (vec_count c.args.job.now.domain _ c.len-at.ensures) _ _ c.in-Some.ensures st _ c.innermost-level.ensures _ c.index.ensures after _ found refl c.in_ok-push.ensures.items c.in_ok-docs.ensures.collected
