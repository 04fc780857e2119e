-- The values that shards offer, each with its shards.
use Rattle.std.proofs.Common.{◌≡◌, ℕ, ◌+◌, ◌<◌, List, [], ◌∷◌, ◌++◌, map, length, take, get_or, Bool, cond, is_some, refl, sym, ◌∙◌, ap}
use Rattle.std.specs.List.{filter, flat_map}
use Rattle.std.specs.List.Sorted.{IsStrictlySortedBy}
use Rattle.std.specs.Map.{keys_of}
use Rattle.std.proofs.lemmas.List.{take_more, get_or-map}
use Rattle.std.proofs.lemmas.List.Elements.{filter-append}
use Rattle.fc_spec.specs.documents.Val.{Val, same_val, has_val, distinct}
use Rattle.fc_spec.proofs.documents.Ascending.{same_ascending, has_val-distinct, distinct_ascends}
use Rattle.fc_spec.proofs.requests.FoundValues.{not-is_empty-filter}
use Rattle.fc_spec.proofs.words.Members.{list_any-flat_map}
use Rattle.fc_refine.specs.Grouped.{Group, Holds}
use Rattle.fc_reading.specs.Terms.{merged}
use Rattle.fc_refine.proofs.Growing.{has_val-keys, held_groups, is_some-if_any}

-- the shards that offer a value
abbrev pub shards_with : (ℕ → List Val) → List ℕ → Val → List ℕ
shards_with f shards v = filter (λ i. has_val v (f i)) shards

-- before the first shard no value has some
pub holds_none : (f : ℕ → List Val) → Holds (shards_with f []) []
unfolding IsStrictlySortedBy
holds_none f = record { lists = λ v. refl; ascend = tt }

-- the next shard is one more of those of its values
pub shards_more : (f : ℕ → List Val) (shards : List ℕ) (at shard : ℕ) → at < length shards → shard ≡ get_or shards at 0 → (v : Val)
    → shards_with f (take (at + 1) shards) v ≡ shards_with f (take at shards) v ++ cond (has_val v (f shard)) (shard ∷ []) []
shards_more f shards at shard h is v =
    let offers : ℕ → Bool = λ i. has_val v (f i) in
    ap (filter offers) (take_more shards at 0 h ∙ ap (λ i. take at shards ++ i ∷ []) (sym is)) ∙ filter-append offers (take at shards) (shard ∷ [])

-- what the shard at an index offers
pub offered_at : {X : Type 0} (see : X → List Val) (f : ℕ → List Val) (offers : List X) (shards : List ℕ) (at : ℕ) (x : X) → map see offers ≡ map f shards
    → at < length offers → at < length shards → x ≡ get_or offers at x → see x ≡ f (get_or shards at 0)
offered_at see f offers shards at x same h k is =
    ap see is ∙ sym (get_or-map see offers at x [] h) ∙ ap (λ l. get_or l at []) same ∙ get_or-map f shards at 0 [] k

-- the groups are those of the offered values
pub merged_groups : (f : ℕ → List Val) (shards : List ℕ) (gs : List (Group ℕ)) → Holds (shards_with f shards) gs → gs ≡ merged f shards
merged_groups f shards gs holds =
    let with_shards : List Val → List (Group ℕ) = map (λ v. (v, shards_with f shards v)) in
    let vals = flat_map f shards in
    let keys : keys_of gs ≡ distinct vals = same_ascending (keys_of gs) (distinct vals) holds.ascend (distinct_ascends vals)
    (λ v. has_val-keys v gs ∙ ap is_some (holds.lists v) ∙ is_some-if_any (shards_with f shards v) ∙ not-is_empty-filter (λ i. has_val v (f i)) shards
    ∙ sym (list_any-flat_map (same_val v) f shards) ∙ sym (has_val-distinct v vals)) in
    held_groups (shards_with f shards) gs holds ∙ ap with_shards keys
