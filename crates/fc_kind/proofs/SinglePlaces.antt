-- Statistics at positions of documents that have exactly one integer each in a field.
use Rattle.std.proofs.Common.{◌≡◌, ◌<◌, ◌+◌, ℕ, ℤ, pos, suc, List, [], ◌∷◌, ◌++◌, map, length, get_or, refl, sym, ap, ap₂, ◌∙◌, arith, All}
use Rattle.std.specs.Prelude.{cond, count_by}
use Rattle.std.proofs.lemmas.List.{get_or-map, length-map}
use Rattle.std.proofs.lemmas.List.Sums.{sum_by-cons}
use Rattle.fc_spec.specs.documents.Columns.{column_of, longs_in}
use Rattle.fc_spec.specs.documents.Document.{Block, values_of}
use Rattle.fc_spec.specs.documents.Totals.{documents_in, document_total}
use Rattle.fc_spec.specs.documents.Val.{long}
use Rattle.fc_spec.specs.documents.World.{shard_places}
use Rattle.fc_spec.specs.requests.Request.{StatKind, sum, min, max, countvals, missing}
use Rattle.fc_spec.specs.requests.Statistics.{number, longs_of, pair_values, statistic_in}
use Rattle.fc_spec.specs.words.Lists.{is_empty}
use Rattle.fc_spec.proofs.documents.PlacedDocuments.{documents_at-shard}
use Rattle.fc_partial.specs.OneDocument.{statistic_of}
use Rattle.fc_partial.specs.Singles.{integers_at, statistic_of_singles}
use Rattle.fc_partial.proofs.ValueLists.{longs_in-longs}
use Rattle.fc_kind.specs.PlaceAt.{place_at}
use Rattle.fc_kind.proofs.PlaceColumns.{column_at, length-shard_places}

module _ (blocks : List Block) (field : ℕ) (values : List ℤ) (all : column_of field (documents_in blocks) ≡ map (λ value. long value ∷ []) values) where
  pub as_many : length values ≡ document_total blocks
  as_many =
      sym (length-map values (λ value. long value ∷ [])) ∙ ap length (sym all) ∙ length-map (documents_in blocks) (λ d. values_of d field)
      ∙ ap length (sym (documents_at-shard 0 0 0 blocks)) ∙ length-map (shard_places 0 0 0 blocks) (λ p. p.document) ∙ length-shard_places blocks

  -- the one value of the document at a position
  value_at : (k : ℕ) → k < document_total blocks → values_of (place_at blocks k).document field ≡ long (get_or values k (pos 0)) ∷ []
  value_at k here =
      sym (column_at blocks field k here) ∙ ap (λ l. get_or l k []) all
      ∙ get_or-map (λ value. long value ∷ []) values k (pos 0) [] (omega (arith, here, as_many))

  pairs : (ps : List ℕ) → All (λ at. at < document_total blocks) ps → pair_values field (map (place_at blocks) ps) ≡ map long (integers_at values ps)
  pairs [] there = refl
  pairs (p ∷ ps) there =
      ap₂ (λ vs rest. vs ++ rest) (value_at p (there 0 0 (omega arith))) (pairs ps (λ k d within. there (suc k) d (omega (arith, within))))

  pub longs : (ps : List ℕ) → All (λ at. at < document_total blocks) ps → longs_of field (map (place_at blocks) ps) ≡ integers_at values ps
  longs ps there = ap longs_in (pairs ps there) ∙ longs_in-longs (integers_at values ps)

  none_missing : (ps : List ℕ) → All (λ at. at < document_total blocks) ps → count_by (λ p. is_empty (values_of p.document field)) (map (place_at blocks) ps) ≡ 0
  none_missing [] there = refl
  none_missing (p ∷ ps) there =
      sum_by-cons (λ place. cond (is_empty (values_of place.document field)) 1 0) (place_at blocks p) (map (place_at blocks) ps)
      ∙ ap₂ (λ vs n. cond (is_empty vs) 1 0 + n) (value_at p (there 0 0 (omega arith))) (none_missing ps (λ k d within. there (suc k) d (omega (arith, within))))

  -- so a statistic is that of the integers
  pub statistic : (of : StatKind) (ps : List ℕ) → All (λ at. at < document_total blocks) ps
      → statistic_in of field (map (place_at blocks) ps) ≡ statistic_of_singles of (integers_at values ps)
  statistic missing ps there = ap (λ n. number (pos n)) (none_missing ps there)
  statistic sum ps there = ap (statistic_of sum) (pairs ps there)
  statistic min ps there = ap (statistic_of min) (pairs ps there)
  statistic max ps there = ap (statistic_of max) (pairs ps there)
  statistic countvals ps there = ap (statistic_of countvals) (pairs ps there)
