use Rattle.std.proofs.Common.{◌≡◌, length, refl, sym, subst}
use Rattle.std.specs.Option.{ForSome}
use Rattle.fc_spec.specs.requests.Buckets.{gap}
use Rattle.fc_spec.specs.requests.DateGaps.{date_gap_count}
use Rattle.fc_spec.specs.requests.Request as kind
use Rattle.fc_spec.specs.requests.Statistics.{Stats}
use Rattle.fc_docset.specs.Positions.{positions}
use Rattle.fc_facet.specs.KindView.{date_range_view}
use Rattle.fc_partial.specs.Adding.{AddUp}
use Rattle.fc_partial.specs.Tallying.{entry_at}
use Rattle.fc_count.specs.Held.{held_stats}
use Rattle.fc_count.proofs.CountedBuckets.{cell_of_bucket, counted_collects}
use Rattle.fc_count.proofs.HeldPositions.{held_counted}
use Rattle.fc_range.proofs.GapBuckets.{gap_found, gap_there}
use Rattle.fc_date_range.proofs.GapRows.{gap_rows}
use Rattle.fc_range.specs.GapKeys.{gap_key}
use Rattle.fc_date_range.specs.GapKeys.{is_gap_of}
use Rattle.fc_date_range.specs.GapSpans.{has_in_span}
use Rattle.fc_date_range.proofs.gaps.collect_by_postings.Goals as goal

pub add_postings-requires-clause-add_up : goal.add_postings-requires-clause-add_up
add_postings-requires-clause-add_up c =
    let g = date_range_view c.args.range.now in
    let column = c.args.gaps.column.now in
    let spans = c.args.gaps.spans.now in
    let blocks = c.args.segment.now.blocks in
    let docs = c.args.docs.now in
    let bound = length spans in
    let count : date_gap_count g ≡ bound = sym c.requires.spans.all in
    let ss = c.args.into.now.stats in
    let holds = has_in_span column spans in
    let cells = held_stats blocks holds bound ss (positions docs) in
    let cell = cell_of_bucket (kind.date_range g) (is_gap_of g) blocks docs c.requires.length holds bound ss (record { stats = ss; cells = cells }) (held_counted blocks holds bound ss (positions docs)) gap_key
    (gap_rows g c.requires.few column spans c.requires.spans blocks c.requires.column bound refl) in
    λ i here some. subst (λ (s : Stats). ForSome (entry_at c.args.into.now.entries (gap i)) (λ there. AddUp there s)) (sym (cell i here)) (c.requires.add_up (gap i) (gap_there (date_gap_count g) bound count i here))

pub returns : goal.returns
returns c =
    let g = date_range_view c.args.range.now in
    let column = c.args.gaps.column.now in
    let spans = c.args.gaps.spans.now in
    let blocks = c.args.segment.now.blocks in
    let docs = c.args.docs.now in
    let bound = length spans in
    let count : date_gap_count g ≡ bound = sym c.requires.spans.all in
    let ss = c.args.into.now.stats in
    let holds = has_in_span column spans in
    let cells = held_stats blocks holds bound ss (positions docs) in
    counted_collects (kind.date_range g) (is_gap_of g) blocks docs c.requires.length holds bound ss (record { stats = ss; cells = cells }) (held_counted blocks holds bound ss (positions docs)) gap_key
    (gap_rows g c.requires.few column spans c.requires.spans blocks c.requires.column bound refl)
    (gap_there (date_gap_count g) bound count) (gap_found (date_gap_count g) bound count (kind.date_range g) blocks) c.args.into.now c.add_postings.new.into refl c.in_ok-add_postings.ensures
