-- The documents in a bucket of a range facet, from the column of its field.
use Rattle.std.proofs.Common.{◌≡◌, ℕ, ◌<◌, ℤ, Bool, ◌&&◌, ◌||◌, List, [], ◌∷◌, map, get_or, refl, ap, ap₂, ◌∙◌}
use Rattle.std.specs.List.{list_any}
use Rattle.std.proofs.lemmas.Simd.{map-map}
use Rattle.fc_spec.specs.documents.Columns.{column_of}
use Rattle.fc_spec.specs.documents.Document.{Block, Document, values_of}
use Rattle.fc_spec.specs.documents.Sets.{zip_with}
use Rattle.fc_spec.specs.documents.Totals.{document_total, documents_in}
use Rattle.fc_spec.specs.documents.Val.{long}
use Rattle.fc_spec.specs.requests.Buckets.{Key, holds_integer, in_bucket, in_range}
use Rattle.fc_spec.specs.requests.DomainSets.{bucket_set}
use Rattle.fc_spec.specs.requests.Request.{Range, range}
use Rattle.fc_domain.proofs.LongRows.{longs_pass}
use Rattle.fc_kind.specs.PlaceAt.{place_at}
use Rattle.fc_kind.proofs.PlaceColumns.{row_at}

-- those of a set that have an integer in the bucket
pub bucket_rows : (g : Range) (key : Key) (blocks : List Block) (docs : List Bool) (column : List (List ℤ)) → map (map long) column ≡ column_of g.field (documents_in blocks)
    → zip_with ◌&&◌ docs (map (list_any (holds_integer g key)) column) ≡ bucket_set (range g) key blocks docs
bucket_rows g key blocks docs column is =
    ap (zip_with ◌&&◌ docs) (longs_pass (holds_integer g key) (in_range g key) column (λ z. refl) ∙ ap (map (list_any (in_range g key))) is
    ∙ map-map (list_any (in_range g key)) (λ (d : Document). values_of d g.field) (documents_in blocks))

any_long : (p : ℤ → Bool) (g : Range) (key : Key) (zs : List ℤ) → ((z : ℤ) → p z ≡ holds_integer g key z) → list_any p zs ≡ list_any (in_range g key) (map long zs)
any_long p g key [] same = refl
any_long p g key (z ∷ zs) same = ap₂ (λ a b. a || b) (same z) (any_long p g key zs same)

-- a row of the column tells whether the document is in the bucket
pub row_in_bucket : (g : Range) (key : Key) (blocks : List Block) (column : List (List ℤ)) (at : ℕ) → map (map long) column ≡ column_of g.field (documents_in blocks) → at < document_total blocks
    → list_any (holds_integer g key) (get_or column at []) ≡ in_bucket (range g) key (place_at blocks at).document
row_in_bucket g key blocks column at is here =
    any_long (holds_integer g key) g key (get_or column at []) (λ z. refl) ∙ ap (list_any (in_range g key)) (row_at long column blocks g.field at is here)
