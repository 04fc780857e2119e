-- The documents that the spans of the gaps hold are those in their buckets.
use Rattle.std.proofs.Common.{◌≡◌, ◌<◌, ℕ, List, length, map, arith}
use Rattle.fc_spec.specs.documents.Columns.{column_of}
use Rattle.fc_spec.specs.documents.Document.{Block}
use Rattle.fc_spec.specs.documents.Totals.{document_total, documents_in}
use Rattle.fc_spec.specs.documents.Val.{Text, text}
use Rattle.fc_spec.specs.requests.Buckets.{gap, in_bucket}
use Rattle.fc_spec.specs.requests.Request.{DateRange, date_range}
use Rattle.fc_facet.specs.RangeGaps.{HasFewEdges}
use Rattle.fc_kind.specs.PlaceAt.{place_at}
use Rattle.fc_date_range.proofs.BucketRows.{row_in_bucket}
use Rattle.fc_date_range.proofs.BucketSpans.{gap_span}
use Rattle.fc_date_range.specs.GapSpans.{AreGapSpans, has_in_span, span_at}
use Rattle.fc_date_range.specs.declared.span.Span.{Span}

pub gap_rows : (g : DateRange) → HasFewEdges g → (column : List (List Text)) (spans : List Span) → AreGapSpans column g spans → (blocks : List Block) → map (map text) column ≡ column_of g.field (documents_in blocks)
    → (bound : ℕ) → bound ≡ length spans → (i at : ℕ) → i < bound → at < document_total blocks → has_in_span column spans at i ≡ in_bucket (date_range g) (gap i) (place_at blocks at).document
gap_rows g few column spans are blocks is bound size i at here there =
    let span = span_at spans i in
    let inside : i < length spans = omega (arith, size) in
    let all = are.all in
    row_in_bucket g (gap i) column span.from span.past (gap_span column g few i (omega (arith, all)) span (are.each i inside)) blocks at is there
