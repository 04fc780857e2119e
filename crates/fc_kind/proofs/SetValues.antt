-- The values of the documents in a set.
use Rattle.std.proofs.Common.{◌≡◌, ℤ, ℕ, List, [], ◌∷◌, ◌++◌, map, Bool, refl, sym, ap, ◌∙◌}
use Rattle.std.specs.List.{items_where_true}
use Rattle.std.proofs.lemmas.List.{map-append}
use Rattle.std.proofs.lemmas.Simd.{map-map}
use Rattle.std.proofs.lemmas.List.Folds.{flat_map-map}
use Rattle.fc_spec.specs.documents.Columns.{column_of, longs_in}
use Rattle.fc_spec.specs.documents.Document.{Block, values_of}
use Rattle.fc_spec.specs.documents.Sets.{places_on}
use Rattle.fc_spec.specs.documents.Totals.{documents_in}
use Rattle.fc_spec.specs.documents.Val.{long}
use Rattle.fc_spec.specs.documents.World.{shard_places}
use Rattle.fc_spec.specs.requests.Statistics.{longs_of, pair_values}
use Rattle.fc_spec.proofs.documents.PlacedDocuments.{documents_at-shard}
use Rattle.fc_spec.proofs.words.WhereTrue.{items_where_true-map}
use Rattle.fc_partial.proofs.ValueLists.{longs_in-longs}
use Rattle.fc_lists.specs.Flat.{flat}

flat-map : {X Y : Type 0} (f : X → Y) (rows : List (List X)) → flat (map (map f) rows) ≡ map f (flat rows)
flat-map f [] = refl
flat-map f (row ∷ rows) = ap (λ l. map f row ++ l) (flat-map f rows) ∙ sym (map-append f row (flat rows))

module _ (blocks : List Block) (field : ℕ) (set : List Bool) where
  -- the values at all places are those of the column
  column_is : map (λ p. values_of p.document field) (shard_places 0 0 0 blocks) ≡ column_of field (documents_in blocks)
  column_is =
      sym (map-map (λ d. values_of d field) (λ p. p.document) (shard_places 0 0 0 blocks)) ∙ ap (map (λ d. values_of d field)) (documents_at-shard 0 0 0 blocks)

  pub values_in_set : pair_values field (places_on 0 blocks set) ≡ flat (items_where_true set (column_of field (documents_in blocks)))
  values_in_set =
      sym (flat_map-map (λ row. row) (λ p. values_of p.document field) (places_on 0 blocks set))
      ∙ ap flat (sym (items_where_true-map (λ p. values_of p.document field) set (shard_places 0 0 0 blocks)) ∙ ap (items_where_true set) column_is)

  -- those of a column of integers are the integers
  pub longs_in_set : (column : List (List ℤ)) → map (map long) column ≡ column_of field (documents_in blocks)
      → pair_values field (places_on 0 blocks set) ≡ map long (flat (items_where_true set column))
  longs_in_set column all =
      values_in_set ∙ ap (λ l. flat (items_where_true set l)) (sym all)
      ∙ ap flat (items_where_true-map (map long) set column) ∙ flat-map long (items_where_true set column)

  -- and those of all documents
  pub longs_in_all : (column : List (List ℤ)) → map (map long) column ≡ column_of field (documents_in blocks) → longs_of field (shard_places 0 0 0 blocks) ≡ flat column
  longs_in_all column all =
      ap longs_in
      (sym (flat_map-map (λ row. row) (λ p. values_of p.document field) (shard_places 0 0 0 blocks)) ∙ ap flat (column_is ∙ sym all) ∙ flat-map long column)
      ∙ longs_in-longs (flat column)
