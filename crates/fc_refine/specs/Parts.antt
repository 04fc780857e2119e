-- What shards told of one terms facet in one bucket, and what the text of the distributed reply reads in it.
use Rattle.std.specs.Prelude.{◌≡◌, ℕ, ◌+◌, ◌<◌, ◌≤◌, length, ◌^◌, ◌==◌, unsigned_abs, pos, List, [], ◌∷◌, map, Bool, Option, None, Some, if◌then◌else◌, nat_lt, slice_index_or, sum_by}
use Rattle.std.specs.List.{list_any, insert, AllByRecursion}
use Rattle.fc_spec.specs.requests.Buckets.{Key}
use Rattle.fc_spec.specs.requests.Request.{Stat, no_nodes}
use Rattle.fc_spec.specs.requests.Statistics.{StatValue, number, extreme, value_over, combined_value}
use Rattle.fc_spec.specs.replies.Reading.{Reading}
use Rattle.fc_spec.specs.messages.Message.{Partials, no_partials}
use Rattle.fc_spec.specs.messages.Held.{HeldBucket, find_key, listed_values}
use Rattle.fc_spec.specs.messages.Merged.{held_count, held_value}

-- the buckets that a shard lists
pub record Part : Type 0 where
  pub shard : ℕ
  pub buckets : Partials

-- which shards told
abbrev pub shards_of : List Part → List ℕ
shards_of ps = map (λ p. p.shard) ps

abbrev pub has_shard : ℕ → List Part → Bool
has_shard i ps = list_any (λ p. p.shard == i) ps

-- each shard is less than those of the parts behind it
abbrev pub HaveAscendingShards : List Part → Type 0
HaveAscendingShards [] = Unit {0}
HaveAscendingShards (p ∷ ps) = AllByRecursion (λ q. p.shard < q.shard) ps × HaveAscendingShards ps

-- one more part, before the first of a greater shard
abbrev pub with_part : Part → List Part → List Part
with_part p [] = p ∷ []
with_part p (q ∷ qs) = if nat_lt p.shard q.shard then p ∷ q ∷ qs else q ∷ with_part p qs

-- what a shard told; none, where it told nothing
abbrev pub told_by : List Part → ℕ → Partials
told_by [] i = no_partials
told_by (p ∷ ps) i = if p.shard == i then p.buckets else told_by ps i

-- the bucket of a key in what is told, without what is nested in it
abbrev pub bucket_of : Key → Partials → Option HeldBucket
bucket_of key buckets = find_key no_nodes key buckets

-- its count and its statistics over some shards, combined, where each shard told this
abbrev pub count_told : (ℕ → Partials) → List ℕ → Key → ℕ
count_told told [] key = 0
count_told told (i ∷ H) key = held_count (bucket_of key (told i)) + count_told told H key

abbrev pub value_told : (ℕ → Partials) → ℕ → Stat → List ℕ → Key → StatValue
value_told told m s [] key = value_over s []
value_told told m s (i ∷ H) key = combined_value s.of (held_value m s (bucket_of key (told i))) (value_told told m s H key)

-- one domain, and in it a bucket for each key
abbrev pub over_told : (ℕ → Partials) → Reading Key (Unit {0})
over_told told = record {
  domain_on = λ n f H X. tt;
  bucket_at = λ kind Y key. key;
  count_on = count_told told;
  statistic_on = value_told told;
  offered_by = λ t inner Y i. listed_values (told i);
}

abbrev pub over_parts : List Part → Reading Key (Unit {0})
over_parts ps = over_told (told_by ps)

-- the absolute value of a number; a least or greatest value adds nothing to a sum
abbrev pub size_of : StatValue → ℕ
size_of (number n) = unsigned_abs n
size_of (extreme o) = 0

-- that of a statistic of what is held, by its number; nothing adds nothing
abbrev pub held_size : ℕ → Option HeldBucket → ℕ
held_size m None = 0
held_size m (Some b) = size_of (slice_index_or b.stats.values m (number (pos 0)))

-- over all that is told the counts of each bucket add up to less than 2^64, and the absolute values of each of its numbers to less than 2^63
pub record SumsFit (ps : List Part) : Type 0 where
  pub counts : (key : Key) → sum_by (λ p. held_count (bucket_of key p.buckets)) ps < 2 ^ 64
  pub sizes : (m : ℕ) (key : Key) → sum_by (λ p. held_size m (bucket_of key p.buckets)) ps < 2 ^ 63

-- at that place the part of the shard goes
abbrev pub IsPlace : List Part → ℕ → ℕ → Type 0
IsPlace ps i at = (at ≤ length ps) × ((buckets : Partials) → with_part (record { shard = i; buckets = buckets }) ps ≡ insert ps at (record { shard = i; buckets = buckets }))
