use Rattle.std.proofs.Common.{◌≡◌, ◌∙◌, ℕ, [], List, get_or, map, sym, ap, subst, refl, rules}
use Rattle.std.specs.List.{list_any}
use Rattle.fc_docset.specs.Positions.{positions}
use Rattle.fc_spec.specs.documents.Columns.{column_of}
use Rattle.fc_spec.specs.documents.Totals.{documents_in}
use Rattle.fc_spec.specs.documents.Val.{long}
use Rattle.fc_spec.specs.requests.Buckets.{gap}
use Rattle.fc_spec.specs.requests.Gaps.{gap_count, in_gap}
use Rattle.fc_spec.specs.requests.Request as kind
use Rattle.fc_spec.specs.requests.Statistics.{Stats}
use Rattle.std.specs.Option.{ForSome}
use Rattle.fc_partial.specs.Adding.{AddUp}
use Rattle.fc_partial.specs.Tallying.{entry_at}
use Rattle.fc_facet.specs.KindView.{range_view}
use Rattle.fc_segment.specs.Columns.{column_values}
use Rattle.fc_count.specs.Counted.{AreCounted}
use Rattle.fc_count.proofs.CountedBuckets.{cell_of_bucket, counted_collects}
use Rattle.fc_range.specs.GapKeys.{gap_key, is_gap_of}
use Rattle.fc_range.proofs.BucketRows.{row_in_bucket}
use Rattle.fc_range.proofs.GapBuckets.{gap_found, gap_there}
use Rattle.fc_range.proofs.range.collect_gaps.Goals as goal

pub add_cells-requires-clause-add_up : goal.add_cells-requires-clause-add_up
add_cells-requires-clause-add_up c =
    let g = range_view c.args.range.now in
    let k = kind.range g in
    let blocks = c.args.segment.now.blocks in
    let docs = c.args.docs.now in
    let bound = c.gaps-gaps.result in
    let count : gap_count g ≡ bound = search rules in
    let ss = c.args.into.now.stats in
    let cells = c.in_ok-cells.cells in
    let rows = c.in-Long.column in
    let holds = λ (at i : ℕ). list_any (in_gap g i) (get_or rows at []) in
    let column : map (map long) rows ≡ column_of g.field (documents_in blocks) = ap column_values (sym c.in-Long.is) ∙ c.column.ensures.values in
    let counted : AreCounted blocks holds bound ss (positions docs) cells = subst (λ (l : List kind.Stat). AreCounted blocks holds bound l (positions docs) cells) (sym c.requires.stats) c.in_ok-cells.ensures in
    let cell = cell_of_bucket k (is_gap_of g) blocks docs c.requires.length holds bound ss cells counted gap_key (λ i at here there. row_in_bucket g (gap i) blocks rows at column there) in
    λ i here some. subst (λ (s : Stats). ForSome (entry_at c.args.into.now.entries (gap i)) (λ there. AddUp there s)) (sym (cell i here)) (c.requires.add_up (gap i) (gap_there (gap_count g) bound count i here))

pub returns : goal.returns
returns c =
    let g = range_view c.args.range.now in
    let k = kind.range g in
    let blocks = c.args.segment.now.blocks in
    let docs = c.args.docs.now in
    let bound = c.gaps-gaps.result in
    let count : gap_count g ≡ bound = search rules in
    let ss = c.args.into.now.stats in
    let cells = c.in_ok-cells.cells in
    let rows = c.in-Long.column in
    let holds = λ (at i : ℕ). list_any (in_gap g i) (get_or rows at []) in
    let column : map (map long) rows ≡ column_of g.field (documents_in blocks) = ap column_values (sym c.in-Long.is) ∙ c.column.ensures.values in
    let counted : AreCounted blocks holds bound ss (positions docs) cells = subst (λ (l : List kind.Stat). AreCounted blocks holds bound l (positions docs) cells) (sym c.requires.stats) c.in_ok-cells.ensures in
    counted_collects k (is_gap_of g) blocks docs c.requires.length holds bound ss cells counted gap_key (λ i at here there. row_in_bucket g (gap i) blocks rows at column there)
    (gap_there (gap_count g) bound count) (gap_found (gap_count g) bound count k blocks) c.args.into.now c.add_cells.new.into refl c.in_ok-add_cells.ensures
