use Rattle.std.proofs.Common.{◌≡◌, ◌∙◌, ◌≤◌, ℕ, ℤ, List, [], ◌∷◌, map, length, get_or, sym, ap, arith, append-nil}
use Rattle.std.specs.Prelude.{nat_abs, sum_by}
use Rattle.std.proofs.lemmas.List.{length-map}
use Rattle.fc_spec.specs.documents.Columns.{column_of, longs_in}
use Rattle.fc_spec.specs.documents.Document.{values_of}
use Rattle.fc_spec.specs.documents.Totals.{documents_in}
use Rattle.fc_spec.specs.documents.Val.{text, long}
use Rattle.fc_spec.specs.documents.World.{shard_places}
use Rattle.fc_spec.specs.requests.Statistics.{longs_of}
use Rattle.fc_spec.specs.scripts.ScriptTotals.{total_limit}
use Rattle.fc_base.specs.StatisticView.{stat_kind_view}
use Rattle.fc_partial.specs.OneDocument.{statistic_of}
use Rattle.fc_partial.proofs.Fitting.{member_fits}
use Rattle.fc_partial.proofs.OneDocuments.{statistic_in-one}
use Rattle.fc_partial.proofs.ValueLists.{longs_in-longs}
use Rattle.fc_kind.specs.PlaceAt.{place_at}
use Rattle.fc_kind.proofs.PlaceColumns.{length-shard_places, nowhere, row_at, segment_fits}
use Rattle.fc_kind.proofs.statistics.document_value.Goals as goal

pub of_longs-requires-clause-small : goal.of_longs-requires-clause-small
of_longs-requires-clause-small c =
    let blocks = c.args.segment.now.blocks in
    let field = c.args.stat.field.0 in
    let at = c.args.at in
    let column : List (List ℤ) = c.in-Long.column in
    let all : map (map long) column ≡ column_of field (documents_in blocks) = rw c.in-Long.is at c.column.ensures.values in
    let row = row_at long column blocks field at all c.requires.there in
    let p = place_at blocks at in
    let fit = member_fits (shard_places 0 0 0 blocks) at nowhere (omega (arith, c.requires.there, length-shard_places blocks)) (segment_fits blocks c.requires.limits) in
    let small : sum_by nat_abs (longs_of field (p ∷ [])) ≤ total_limit = fit.sums field in
    let same : longs_of field (p ∷ []) ≡ c.values_of.result.now =
    ap longs_in (append-nil (values_of p.document field) ∙ sym row) ∙ longs_in-longs (get_or column at []) ∙ sym c.values_of.ensures.values in
    rw same at small

pub returns-in-Text : goal.returns-in-Text
returns-in-Text c =
    let blocks = c.args.segment.now.blocks in
    let field = c.args.stat.field.0 in
    let column : List (List (List ℕ)) = c.in-Text.column in
    let all : map (map text) column ≡ column_of field (documents_in blocks) = rw c.in-Text.is at c.column.ensures.values in
    let row = row_at text column blocks field c.args.at all c.requires.there in
    c.of_texts.ensures (get_or column c.args.at []) (sym (ap length c.ordinals_of.ensures.ordinals ∙ length-map (get_or column c.args.at []) _))
    ∙ ap (statistic_of (stat_kind_view c.args.stat.of)) row ∙ sym (statistic_in-one (stat_kind_view c.args.stat.of) field (place_at blocks c.args.at))

pub returns-in-Long : goal.returns-in-Long
returns-in-Long c =
    let blocks = c.args.segment.now.blocks in
    let field = c.args.stat.field.0 in
    let column : List (List ℤ) = c.in-Long.column in
    let all : map (map long) column ≡ column_of field (documents_in blocks) = rw c.in-Long.is at c.column.ensures.values in
    let row = row_at long column blocks field c.args.at all c.requires.there in
    c.of_longs.ensures ∙ ap (λ (l : List ℤ). statistic_of (stat_kind_view c.args.stat.of) (map long l)) c.values_of.ensures.values
    ∙ ap (statistic_of (stat_kind_view c.args.stat.of)) row ∙ sym (statistic_in-one (stat_kind_view c.args.stat.of) field (place_at blocks c.args.at))
