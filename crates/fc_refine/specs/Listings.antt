-- What parts list of one value.
use Rattle.std.specs.Prelude.{◌≡◌, ℕ, List, [], ◌∷◌, ◌++◌, map, Bool, false, All, Option, Some, unwrap_or, if◌then◌else◌}
use Rattle.std.specs.List.{flat_map}
use Rattle.fc_spec.specs.documents.Val.{Val, same_val}
use Rattle.fc_spec.specs.requests.Buckets.{Key, value}
use Rattle.fc_spec.specs.requests.Combining.{combined}
use Rattle.fc_spec.specs.requests.Request.{Stat}
use Rattle.fc_spec.specs.requests.Statistics.{Stats, stats_over}
use Rattle.fc_spec.specs.messages.Message.{Partials, no_partials, partial}
use Rattle.fc_partial.specs.Adding.{HasShape, AddUp}
use Rattle.fc_partial.specs.BucketView.{node_view}
use Rattle.fc_partial.specs.declared.bucket.PartialNode.{PartialNode}
use Rattle.fc_partial.specs.StatsView.{stats_view}
use Rattle.fc_refine.specs.Grouped.{ValueMap, map_view, list_at, Ascend}
use Rattle.fc_refine.specs.Parts as parts
use Rattle.fc_refine.specs.declared.listing.Listed.{Listed}
use Rattle.fc_refine.specs.declared.listing.Part.{Part}

-- a shard that lists it, with the statistics of its bucket there
abbrev pub Listing : Type 0
Listing = ℕ × Stats

abbrev pub listed_view : Listed → Listing
listed_view l = (l.shard, stats_view l.stats.now)

abbrev pub part_view : Part → parts.Part
part_view p = record { shard = p.shard; buckets = node_view p.node.now }

abbrev pub parts_view : List Part → List parts.Part
parts_view ps = map part_view ps

-- a part as candidates keep it
abbrev pub kept_part : Part → ℕ × PartialNode
kept_part p = (p.shard, p.node.now)

-- the key is that of the value
abbrev pub is_key_of_value : Val → Key → Bool
is_key_of_value v (value w) = same_val v w
is_key_of_value v _ = false

-- what a shard's buckets list of it
abbrev pub listed_in : Val → ℕ → Partials → List Listing
listed_in v i no_partials = []
listed_in v i (partial key stats rows rest) = if is_key_of_value v key then (i, stats) ∷ listed_in v i rest else listed_in v i rest

-- what all parts list of it, in their order
abbrev pub listed_by : Val → List parts.Part → List Listing
listed_by v ps = flat_map (λ p. listed_in v p.shard p.buckets) ps

-- the statistics together
abbrev pub all_of : List Stat → List Listing → Stats
all_of ss [] = stats_over ss []
all_of ss (l ∷ ls) = combined ss l.1 (all_of ss ls)

-- they can be combined one after another with what is there
abbrev pub AddUpInTurn : List Stat → Stats → List Listing → Type 0
AddUpInTurn ss there [] = Unit {0}
AddUpInTurn ss there (l ∷ ls) = AddUp there l.1 × AddUpInTurn ss (combined ss there l.1) ls

-- each has the shape of the statistics, and they can be combined from those of no document on
pub record CanCombine (ss : List Stat) (ls : List Listing) : Type 0 where
  pub shaped : All (λ l. HasShape ss l.1) ls
  pub fit : AddUpInTurn ss (stats_over ss []) ls

-- a list behind one that may not be there
abbrev pub extended : {V : Type 0} → Option (List V) → List V → Option (List V)
extended o [] = o
extended o (x ∷ xs) = Some (unwrap_or o [] ++ x ∷ xs)

-- each value has more items, in their order
pub record GrowsBy {T V : Type 0} (see : T → V) (old new : ValueMap T) (items : Val → List V) : Type 0 where
  pub lists : (v : Val) → list_at v (map_view see new) ≡ extended (list_at v (map_view see old)) (items v)
  pub ascend : Ascend (map_view see old) → Ascend (map_view see new)
