use Rattle.std.proofs.Common.{◌≡◌, ℕ, [], List, get_or, refl, sym, subst, rules}
use Rattle.std.specs.List.{list_any}
use Rattle.std.specs.Option.{ForSome}
use Rattle.fc_spec.specs.requests.Buckets.{gap}
use Rattle.fc_spec.specs.requests.DateGaps.{date_gap_count, in_date_gap}
use Rattle.fc_spec.specs.requests.Request as kind
use Rattle.fc_spec.specs.requests.Statistics.{Stats}
use Rattle.fc_docset.specs.Positions.{positions}
use Rattle.fc_facet.specs.KindView.{date_range_view}
use Rattle.fc_partial.specs.Adding.{AddUp}
use Rattle.fc_partial.specs.Tallying.{entry_at}
use Rattle.fc_count.specs.Counted.{AreCounted}
use Rattle.fc_count.proofs.CountedBuckets.{cell_of_bucket, counted_collects}
use Rattle.fc_date_range.proofs.DateRows.{date_rows}
use Rattle.fc_range.proofs.GapBuckets.{gap_found, gap_there}
use Rattle.fc_range.specs.GapKeys.{gap_key}
use Rattle.fc_date_range.specs.GapKeys.{is_gap_of}
use Rattle.fc_date_range.proofs.dates.collect_by_dates.Goals as goal

pub add_cells-requires-clause-add_up : goal.add_cells-requires-clause-add_up
add_cells-requires-clause-add_up c =
    let g = date_range_view c.args.range.now in
    let column = c.args.column.now in
    let blocks = c.args.segment.now.blocks in
    let docs = c.args.docs.now in
    let bound = c.gaps-bound.result in
    let count : date_gap_count g ≡ bound = search rules in
    let ss = c.args.into.now.stats in
    let holds = λ (at i : ℕ). list_any (in_date_gap g i) (get_or column at []) in
    let cells = c.in_ok-cells.cells in
    let counted : AreCounted blocks holds bound ss (positions docs) cells = subst (λ (l : List kind.Stat). AreCounted blocks holds bound l (positions docs) cells) (sym c.requires.stats) c.in_ok-cells.ensures in
    let cell = cell_of_bucket (kind.date_range g) (is_gap_of g) blocks docs c.requires.length holds bound ss cells counted gap_key (date_rows g column blocks c.requires.column bound) in
    λ i here some. subst (λ (s : Stats). ForSome (entry_at c.args.into.now.entries (gap i)) (λ there. AddUp there s)) (sym (cell i here)) (c.requires.add_up (gap i) (gap_there (date_gap_count g) bound count i here))

pub returns : goal.returns
returns c =
    let g = date_range_view c.args.range.now in
    let column = c.args.column.now in
    let blocks = c.args.segment.now.blocks in
    let docs = c.args.docs.now in
    let bound = c.gaps-bound.result in
    let count : date_gap_count g ≡ bound = search rules in
    let ss = c.args.into.now.stats in
    let holds = λ (at i : ℕ). list_any (in_date_gap g i) (get_or column at []) in
    let cells = c.in_ok-cells.cells in
    let counted : AreCounted blocks holds bound ss (positions docs) cells = subst (λ (l : List kind.Stat). AreCounted blocks holds bound l (positions docs) cells) (sym c.requires.stats) c.in_ok-cells.ensures in
    counted_collects (kind.date_range g) (is_gap_of g) blocks docs c.requires.length holds bound ss cells counted gap_key (date_rows g column blocks c.requires.column bound)
    (gap_there (date_gap_count g) bound count) (gap_found (date_gap_count g) bound count (kind.date_range g) blocks) c.args.into.now c.add_cells.new.into refl c.in_ok-add_cells.ensures
