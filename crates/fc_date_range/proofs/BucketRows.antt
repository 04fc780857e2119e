-- The documents in a bucket of a range facet over dates, from the column of its field.
use Rattle.std.proofs.Common.{◌≡◌, ◌<◌, ℕ, Bool, true, false, ◌&&◌, List, [], length, map, get_or, nat_le, sym, ap, ◌∙◌, arith}
use Rattle.std.specs.Prelude.{nat_lt}
use Rattle.std.specs.List.{list_any}
use Rattle.std.proofs.lemmas.List.{get_or-map, length-map}
use Rattle.std.proofs.lemmas.Simd.{map-map}
use Rattle.fc_spec.specs.documents.Columns.{column_of}
use Rattle.fc_spec.specs.documents.Document.{Block, Document, values_of}
use Rattle.fc_spec.specs.documents.Sets.{zip_with}
use Rattle.fc_spec.specs.documents.Totals.{document_total, documents_in}
use Rattle.fc_spec.specs.documents.Val.{Text, text}
use Rattle.fc_spec.specs.requests.Buckets.{Key, holds_date, in_bucket, in_date_range}
use Rattle.fc_spec.specs.requests.DomainSets.{bucket_set}
use Rattle.fc_spec.specs.requests.Request.{DateRange, date_range}
use Rattle.fc_column.specs.Terms.{has_from_to, has_text, ordinals_in, terms_below, terms_of}
use Rattle.fc_column.proofs.TermOrder.{term_placed}
use Rattle.fc_domain.proofs.TextRows.{texts_pass, to_end}
use Rattle.fc_kind.specs.PlaceAt.{place_at}
use Rattle.fc_kind.proofs.PlaceColumns.{row_at}
use Rattle.fc_range.proofs.Tests.{is_below}
use Rattle.fc_date_range.specs.Spans.{IsSpanOf}

module _ (g : DateRange) (key : Key) (column : List (List Text)) (from past : ℕ) (span : IsSpanOf column (holds_date g key) from past) where
  -- the bucket holds a text of the column where the span has it
  held_in_span : (t : Text) → list_any (has_text t) column ≡ true → (nat_le from (terms_below column t) && nat_lt (terms_below column t) past) ≡ in_date_range g key (text t)
  held_in_span t among =
      span (terms_below column t) (is_below (terms_below column t) (length (terms_of column)) (to_end column t among)) ∙ ap (holds_date g key) (term_placed column t among)

  abbrev passes : List Text → Bool
  passes texts = has_from_to from past (ordinals_in column texts)

  rows_in_bucket : map passes column ≡ map (list_any (in_date_range g key)) (map (map text) column)
  rows_in_bucket = texts_pass column from past (in_date_range g key) held_in_span

  -- those of a set that have a text in the bucket
  pub bucket_rows : (blocks : List Block) (docs : List Bool) → map (map text) column ≡ column_of g.field (documents_in blocks) → zip_with ◌&&◌ docs (map passes column) ≡ bucket_set (date_range g) key blocks docs
  bucket_rows blocks docs is =
      ap (zip_with ◌&&◌ docs) (rows_in_bucket ∙ ap (map (list_any (in_date_range g key))) is ∙ map-map (list_any (in_date_range g key)) (λ (d : Document). values_of d g.field) (documents_in blocks))

  -- a row of the column tells whether the document is in the bucket
  pub row_in_bucket : (blocks : List Block) (at : ℕ) → map (map text) column ≡ column_of g.field (documents_in blocks) → at < document_total blocks
      → passes (get_or column at []) ≡ in_bucket (date_range g) key (place_at blocks at).document
  row_in_bucket blocks at is here =
      sym (get_or-map passes column at [] false within) ∙ ap (λ l. get_or l at false) rows_in_bucket
      ∙ get_or-map (list_any (in_date_range g key)) (map (map text) column) at [] false (omega (arith, within, length-map column (map text)))
      ∙ ap (list_any (in_date_range g key)) (get_or-map (map text) column at [] [] within ∙ row_at text column blocks g.field at is here)
    where
      within : at < length column
      within = omega (arith, here, ap length is, length-map column (map text), length-map (documents_in blocks) (λ d. values_of d g.field))
