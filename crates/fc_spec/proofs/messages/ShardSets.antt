-- The base, domain changes and buckets on one shard, as sets over its blocks.
use Rattle.std.proofs.Common.{◌≡◌, ℕ, List, [], ◌∷◌, map, length, Bool, true, false, cond, ◌&&◌, Some, sym, ◌∙◌, ap}
use Rattle.std.specs.Prelude.{slice_get}
use Rattle.std.specs.List.{filter, list_any, list_all, items_where_true}
use Rattle.fc_spec.specs.words.Lists.{is_empty}
use Rattle.fc_spec.specs.documents.Document.{Document, Block}
use Rattle.fc_spec.specs.documents.World.{World, Place, places, shard_places, on_shards, same_block}
use Rattle.fc_spec.specs.documents.Totals.{document_total}
use Rattle.fc_spec.specs.documents.Sets.{zip_with, passing, passing_of, places_on}
use Rattle.fc_spec.specs.queries.Matching.{matches}
use Rattle.fc_spec.specs.requests.Request.{BlockStep, stay, parents, children, DomainChange}
use Rattle.fc_spec.specs.requests.Base.{meets_base}
use Rattle.fc_spec.specs.requests.Paths.{meets_rebuilt}
use Rattle.fc_spec.specs.requests.Domain.{moved, filtered}
use Rattle.fc_spec.specs.requests.Buckets.{in_bucket}
use Rattle.fc_spec.specs.requests.DomainSets.{moved_set}
use Rattle.fc_spec.specs.laws.Blockwise.{IsOnShard, BasesOfShards, RebuiltOfShards, ChangesOfShards, BucketsOfShards, DocumentsOfShards}
use Rattle.fc_spec.proofs.words.WhereTrue.{filter_where_true, filter-items_where_true, items_where_true-map}
use Rattle.fc_spec.proofs.documents.Shards.{is_on}
use Rattle.fc_spec.proofs.documents.PlacedDocuments.{documents_at-shard}
use Rattle.fc_spec.proofs.requests.Locality.{filter-filter, moved_local}
use Rattle.fc_spec.proofs.requests.BlockSteps.{has_parent, matching_parent, children_in_shard, parents_in_shard}
use Rattle.fc_spec.proofs.requests.SetChanges.{from_begin, shard_documents}
use Rattle.fc_spec.proofs.messages.OwnBlocks.{of_blocks, part_of_places}

-- a filter by documents of the places of a set
filter-places_on : (t : Document → Bool) (s : ℕ) (blocks : List Block) (set : List Bool) → filter (λ p. t p.document) (places_on s blocks set) ≡ places_on s blocks (passing_of t blocks set)
filter-places_on t s blocks set =
    filter-items_where_true (λ p. t p.document) set (shard_places s 0 0 blocks) ∙ ap (λ v. items_where_true (zip_with ◌&&◌ set v) (shard_places s 0 0 blocks)) (shard_documents t s 0 0 blocks)

pub buckets_of_shards : BucketsOfShards
buckets_of_shards kind key s blocks X set on =
    filter-filter (is_on (s ∷ [])) (λ p. in_bucket kind key p.document) X ∙ ap (filter (λ p. in_bucket kind key p.document)) on ∙ filter-places_on (in_bucket kind key) s blocks set

module _ (W : World) (s : ℕ) (blocks : List Block) (at : slice_get W s ≡ Some blocks) where
  -- the places of the shard are those of its blocks
  own_places : on_shards (s ∷ []) (places W) ≡ shard_places s 0 0 blocks
  own_places = part_of_places s W ∙ ap (of_blocks s) at

  -- of a filter of all places, the shard has the places where the test passes
  filtered_on : (t : Place → Bool) → on_shards (s ∷ []) (filter t (places W)) ≡ places_on s blocks (map t (shard_places s 0 0 blocks))
  filtered_on t = filter-filter (is_on (s ∷ [])) t (places W) ∙ ap (filter t) own_places ∙ filter_where_true t (shard_places s 0 0 blocks)

  -- a block step of the places of a set
  moved_on : (b : BlockStep) (X : List Place) (set : List Bool) → length set ≡ document_total blocks → IsOnShard s blocks set X → IsOnShard s blocks (moved_set b blocks set) (moved W b X)
  moved_on stay X set e on = on
  moved_on (parents q) X set e on =
      sym (moved_local W (parents q) (s ∷ []) X) ∙ ap (λ Y. on_shards (s ∷ []) (moved W (parents q) Y)) on
      ∙ filtered_on (λ p. matching_parent q p && list_any (same_block p) (places_on s blocks set))
      ∙ ap (places_on s blocks) (parents_in_shard q s 0 0 blocks set e)
  moved_on (children q) X set e on =
      sym (moved_local W (children q) (s ∷ []) X) ∙ ap (λ Y. on_shards (s ∷ []) (moved W (children q) Y)) on
      ∙ filtered_on (λ p. list_any (has_parent q p) (places_on s blocks set))
      ∙ ap (places_on s blocks) (children_in_shard q s 0 0 blocks set e)

  from_begin_on : (change : DomainChange) (X : List Place) (set : List Bool) → length set ≡ document_total blocks → IsOnShard s blocks set X
      → IsOnShard s blocks (from_begin change blocks set) (filtered change.filters (moved W change.block X))
  from_begin_on change X set e on =
      let t = λ (d : Document). list_all (λ q. matches q d) change.filters in
      filter-filter (is_on (s ∷ [])) (λ p. t p.document) (moved W change.block X) ∙ ap (filter (λ p. t p.document)) (moved_on change.block X set e on)
      ∙ filter-places_on t s blocks (moved_set change.block blocks set)

  -- of the places whose document passes, the shard has those of its blocks
  documents_on : (t : Document → Bool) → IsOnShard s blocks (passing t blocks) (filter (λ p. t p.document) (places W))
  documents_on t = filtered_on (λ p. t p.document) ∙ ap (places_on s blocks) (shard_documents t s 0 0 blocks)

pub bases_of_shards : BasesOfShards
bases_of_shards r tags W s blocks at = documents_on W s blocks at (meets_base r tags)

pub rebuilt_of_shards : RebuiltOfShards
rebuilt_of_shards r path tags W s blocks at = documents_on W s blocks at (meets_rebuilt r path tags)

pub changes_of_shards : ChangesOfShards
changes_of_shards change W s blocks at B X base set h e base_on set_on = go (is_empty change.exclude)
  where
    go : (c : Bool) → IsOnShard s blocks (from_begin change blocks (cond c set base)) (filtered change.filters (moved W change.block (cond c X B)))
    go true = from_begin_on W s blocks at change X set e set_on
    go false = from_begin_on W s blocks at change B base h base_on

pub documents_of_shards : DocumentsOfShards
documents_of_shards s blocks set = sym (items_where_true-map (λ p. p.document) set (shard_places s 0 0 blocks)) ∙ ap (items_where_true set) (documents_at-shard s 0 0 blocks)
