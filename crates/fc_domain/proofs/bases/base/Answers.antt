use Rattle.std.proofs.Common.{◌≡◌, ◌&&◌, ◌||◌, List, map, length, ap, sym, ◌∙◌}
use Rattle.std.specs.List.{list_all, items_where_true}
use Rattle.fc_spec.specs.documents.Document.{Document}
use Rattle.fc_spec.specs.documents.Sets.{zip_with, passing, passing_of}
use Rattle.fc_spec.specs.documents.Totals.{documents_in}
use Rattle.fc_spec.specs.queries.Matching.{matches}
use Rattle.fc_spec.specs.requests.Base as definition
use Rattle.fc_spec.proofs.documents.LiveBlocks.{length-live}
use Rattle.fc_spec.proofs.requests.SetChanges.{passing_keeps}
use Rattle.fc_query.specs.FilterView.{filter_view}
use Rattle.fc_query.specs.QueryView.{query_view}
use Rattle.fc_query.specs.declared.filter.Filter.{Filter}
use Rattle.fc_request.specs.RequestView.{request_view}
use Rattle.fc_domain.proofs.StepSets.{passing_of-passing, passing-within, base_documents}
use Rattle.fc_domain.proofs.bases.base.Goals as goal

pub and_with-requires : goal.and_with-requires
and_with-requires c =
    c.keep_filtered.ensures.length ∙ c.matches.ensures.length ∙ c.requires.length ∙ sym (ap length c.live.ensures.live ∙ length-live c.args.segment.now.blocks c.args.segment.now.live c.live.ensures.whole)

pub returns-clause-set : goal.returns-clause-set
returns-clause-set c =
    let blocks = c.args.segment.now.blocks in
    let exclude = c.args.exclude.now in
    let passes = λ (filters : List Filter) (d : Document). list_all (λ f. definition.has_tag_in exclude f || matches f.query d) (map filter_view filters) in
    let meets = definition.meets_base (request_view c.args.request.now) exclude in
    let kept : c.keep_filtered.new.into ≡ passing meets blocks =
    c.in_ok-keep_filtered.ensures.set ∙ (λ i. passing_of (passes (c.deref.ensures.value i)) blocks (c.in_ok-matches.ensures.set i))
    ∙ passing_of-passing (matches (query_view c.args.request.now.query)) (passes c.args.request.now.filters.items) blocks in
    c.and_with.ensures ∙ (λ i. zip_with ◌&&◌ (kept i) (c.live.ensures.live i)) ∙ passing-within meets blocks c.args.segment.now.live

pub returns-clause-documents : goal.returns-clause-documents
returns-clause-documents c =
    let segment = c.args.segment.now in
    ap (λ set. items_where_true set (documents_in segment.blocks)) (returns-clause-set c)
    ∙ base_documents c.sets_hold_on_live_blocks.ensures.passing (request_view c.args.request.now) c.args.exclude.now segment.blocks segment.live c.live.ensures.whole

pub returns-clause-length : goal.returns-clause-length
returns-clause-length c =
    let segment = c.args.segment.now in
    ap length (returns-clause-set c)
    ∙ passing_keeps (definition.meets_base (request_view c.args.request.now) c.args.exclude.now) segment.blocks segment.live (length-live segment.blocks segment.live c.live.ensures.whole)
    ∙ sym c.requires.length
