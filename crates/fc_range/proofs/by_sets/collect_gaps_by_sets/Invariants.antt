use Rattle.std.proofs.Common.{◌≡◌, length}
use Rattle.fc_spec.specs.documents.Sets.{places_on}
use Rattle.fc_spec.specs.documents.Totals.{document_total}
use Rattle.fc_spec.specs.requests.Request as kind
use Rattle.fc_facet.specs.KindView.{range_view}
use Rattle.fc_kind.specs.Collecting.{CollectsAmong}
use Rattle.fc_range.specs.GapKeys.{is_gap_below}
use Rattle.fc_range.proofs.by_sets.collect_gaps_by_sets.Given as goal

abbrev pub invariant-loop-number : goal.invariant-loop-number
invariant-loop-number l = record {
  kept : length l.own ≡ document_total l.segment.blocks;
  collected : CollectsAmong (is_gap_below l.number) (kind.range (range_view l.range)) l.initial.into.stats (places_on 0 l.segment.blocks l.docs) l.initial.into l.into;
}
