-- The documents at places, and their values in columns.
use Rattle.std.proofs.Common.{◌≡◌, ◌<◌, ℕ, List, [], ◌∷◌, map, length, get_or, false, sym, ap, subst, ◌∙◌, arith, append-nil}
use Rattle.std.proofs.lemmas.List.{get_or-map, length-map}
use Rattle.fc_spec.specs.documents.Columns.{column_of}
use Rattle.fc_spec.specs.documents.Document.{Document, Block, values_of}
use Rattle.fc_spec.specs.documents.Val.{Val}
use Rattle.fc_spec.specs.documents.Totals.{documents_in, document_total}
use Rattle.fc_spec.specs.documents.World.{Place, shard_places}
use Rattle.fc_spec.specs.scripts.WorldLimits.{IsWithinLimits}
use Rattle.fc_spec.proofs.documents.PlacedDocuments.{documents_at-shard}
use Rattle.fc_partial.specs.Fitting.{StatisticsFit}
use Rattle.fc_partial.proofs.Fitting.{places_fit}
use Rattle.fc_kind.specs.PlaceAt.{place_at}

-- no place
abbrev pub nowhere : Place
nowhere = record { shard = 0; position = 0; block = 0; parent = false; document = [] }

pub length-shard_places : (blocks : List Block) → length (shard_places 0 0 0 blocks) ≡ document_total blocks
length-shard_places blocks = sym (length-map (shard_places 0 0 0 blocks) (λ p. p.document)) ∙ ap length (documents_at-shard 0 0 0 blocks)

pub document_of : (blocks : List Block) (k : ℕ) (d : Document) → k < document_total blocks → get_or (documents_in blocks) k d ≡ (place_at blocks k).document
document_of blocks k d here =
    ap (λ l. get_or l k d) (sym (documents_at-shard 0 0 0 blocks))
    ∙ get_or-map (λ (p : Place). p.document) (shard_places 0 0 0 blocks) k _ d (omega (arith, here, length-shard_places blocks))

-- a column has the values of the document at each position
pub column_at : (blocks : List Block) (field k : ℕ) → k < document_total blocks → get_or (column_of field (documents_in blocks)) k [] ≡ values_of (place_at blocks k).document field
column_at blocks field k here = get_or-map (λ (d : Document). values_of d field) (documents_in blocks) k [] [] here ∙ ap (λ (d : Document). values_of d field) (document_of blocks k [] here)

-- the places of a segment within the limits fit
pub segment_fits : (blocks : List Block) → IsWithinLimits (blocks ∷ []) → StatisticsFit (shard_places 0 0 0 blocks)
segment_fits blocks limits = subst StatisticsFit (append-nil (shard_places 0 0 0 blocks)) (places_fit (blocks ∷ []) limits)

-- the same of a column of lists that are seen as values
pub row_at : {X : Type 0} (see : X → Val) (column : List (List X)) (blocks : List Block) (field k : ℕ) → map (map see) column ≡ column_of field (documents_in blocks) → k < document_total blocks
    → map see (get_or column k []) ≡ values_of (place_at blocks k).document field
row_at see column blocks field k all here =
    sym (get_or-map (map see) column k [] [] within) ∙ ap (λ l. get_or l k []) all ∙ column_at blocks field k here
  where
    within : k < length column
    within = omega (arith, here, ap length all, length-map column (map see), length-map (documents_in blocks) (λ d. values_of d field))
