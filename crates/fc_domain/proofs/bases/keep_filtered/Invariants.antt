use Rattle.std.proofs.Common.{◌≡◌, ◌||◌, drop, length, map}
use Rattle.fc_spec.specs.documents.Totals.{document_total}
use Rattle.fc_spec.specs.queries.Matching.{matches}
use Rattle.fc_spec.specs.requests.Base.{has_tag_in}
use Rattle.fc_query.specs.FilterView.{filter_view}
use Rattle.fc_domain.proofs.StepSets.{AreFilteredTo}
use Rattle.fc_domain.proofs.bases.keep_filtered.Given as goal

abbrev pub invariant-loop-filter : goal.invariant-loop-filter
invariant-loop-filter l =
    AreFilteredTo (λ f d. has_tag_in l.exclude f || matches f.query d) l.segment.blocks (map filter_view (drop l.filter-index l.filters)) (map filter_view l.filters) l.fn.into l.into
    × (length l.answers ≡ document_total l.segment.blocks)
