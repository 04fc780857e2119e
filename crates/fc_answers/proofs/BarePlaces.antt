-- Places without their numbers: those of blocks that are joined are those of each list of blocks.
use Rattle.std.proofs.Common.{◌≡◌, ℕ, ◌+◌, List, [], ◌∷◌, ◌++◌, map, length, Bool, false, not, ◌==◌, refl, sym, ◌∙◌, ap}
use Rattle.std.specs.List.{filter, items_where_true}
use Rattle.std.proofs.lemmas.List.{map-append}
use Rattle.fc_spec.specs.words.Lists.{joined}
use Rattle.fc_spec.specs.documents.Document.{Document, Block}
use Rattle.fc_spec.specs.documents.World.{World, Place, places, places_from, shard_places, block_places}
use Rattle.fc_spec.specs.documents.Totals.{document_total}
use Rattle.fc_spec.specs.documents.Sets.{places_on, places_at}
use Rattle.fc_spec.specs.requests.Request.{Stat, Terms, Kind}
use Rattle.fc_spec.specs.requests.Buckets.{Key, bucket_places}
use Rattle.fc_spec.specs.requests.Statistics.{stats_over}
use Rattle.fc_spec.specs.replies.Values.{entries_in}
use Rattle.fc_spec.specs.messages.Answer.{not_empty}
use Rattle.fc_spec.proofs.words.WhereTrue.{items_where_true-map}
use Rattle.fc_spec.proofs.documents.AlikePlaces.{length_renumbered, bucket_renumbered, stats_renumbered, entries_renumbered}
use Rattle.fc_spec.proofs.documents.JoinedPlaces.{shard_places-append}
use Rattle.fc_spec.proofs.documents.Renumbered.{Numbers, renumbered}

abbrev pub no_numbers : Numbers
no_numbers = record { shard = λ p. 0; position = λ p. 0; block = λ p. 0 }

abbrev pub bare : List Place → List Place
bare X = map (renumbered no_numbers) X

-- the same but for their numbers
abbrev pub SameBare : List Place → List Place → Type 0
SameBare X Y = bare X ≡ bare Y

-- ---- what looks at documents alone

module _ (X Y : List Place) (same : SameBare X Y) where
  pub bare_bucket : (kind : Kind) (k : Key) → SameBare (bucket_places kind k X) (bucket_places kind k Y)
  bare_bucket kind k = sym (bucket_renumbered no_numbers kind k X) ∙ ap (bucket_places kind k) same ∙ bucket_renumbered no_numbers kind k Y

  pub bare_stats : (ss : List Stat) → stats_over ss X ≡ stats_over ss Y
  bare_stats ss = sym (stats_renumbered no_numbers ss X) ∙ ap (stats_over ss) same ∙ stats_renumbered no_numbers ss Y

  pub bare_entries : (t : Terms) (ss : List Stat) → entries_in t ss X ≡ entries_in t ss Y
  bare_entries t ss = sym (entries_renumbered no_numbers t ss X) ∙ ap (entries_in t ss) same ∙ entries_renumbered no_numbers t ss Y

  bare_length : length X ≡ length Y
  bare_length = sym (length_renumbered no_numbers X) ∙ ap length same ∙ length_renumbered no_numbers Y

pub bare_not_empty : (X Y : List Place) → SameBare X Y → (kind : Kind) (keys : List Key) → not_empty kind X keys ≡ not_empty kind Y keys
bare_not_empty X Y same kind keys =
    λ i. filter (λ k. not (bare_length (bucket_places kind k X) (bucket_places kind k Y) (bare_bucket X Y same kind k) i == 0)) keys

-- ---- the places of blocks

pub bare_block : (s b p t c q : ℕ) (ds : List Document) (d : Document) → SameBare (block_places s b p ds d) (block_places t c q ds d)
bare_block s b p t c q [] d = refl
bare_block s b p t c q (x ∷ ds) d = ap (λ X. record { shard = 0; position = 0; block = 0; parent = false; document = x } ∷ X) (bare_block s b (p + 1) t c (q + 1) ds d)

bare_shard : (s b p t c q : ℕ) (xs : List Block) → SameBare (shard_places s b p xs) (shard_places t c q xs)
bare_shard s b p t c q [] = refl
bare_shard s b p t c q (x ∷ xs) =
    map-append _ (block_places s b p x.children x.parent) (shard_places s (b + 1) (p + length x.children + 1) xs)
    ∙ (λ i. bare_block s b p t c q x.children x.parent i ++ bare_shard s (b + 1) (p + length x.children + 1) t (c + 1) (q + length x.children + 1) xs i)
    ∙ sym (map-append _ (block_places t c q x.children x.parent) (shard_places t (c + 1) (q + length x.children + 1) xs))

-- on one shard, and on a shard for each list
bare_joined : (s b p t : ℕ) (V : World) → SameBare (shard_places s b p (joined V)) (places_from t V)
bare_joined s b p t [] = refl
bare_joined s b p t (A ∷ V) =
    ap bare (shard_places-append s b p A (joined V))
    ∙ map-append _ (shard_places s b p A) (shard_places s (b + length A) (p + document_total A) (joined V))
    ∙ (λ i. bare_shard s b p t 0 0 A i ++ bare_joined s (b + length A) (p + document_total A) (t + 1) V i)
    ∙ sym (map-append _ (shard_places t 0 0 A) (places_from (t + 1) V))

-- at the positions in sets
pub bare_sets : (s : ℕ) (V : World) (sets : List (List Bool)) → SameBare (places_on s (joined V) (joined sets)) (places_at V sets)
bare_sets s V sets =
    sym (items_where_true-map (renumbered no_numbers) (joined sets) (shard_places s 0 0 (joined V)))
    ∙ ap (items_where_true (joined sets)) (bare_joined s 0 0 0 V)
    ∙ items_where_true-map (renumbered no_numbers) (joined sets) (places V)
