-- Down to which count shards list values, so that the first of all values are among those listed. Guide: JSON Facet API, "Terms Facet" (`refine`).
use Rattle.std.specs.Prelude.{ℕ, zero, suc, ◌+◌, ◌-◌, ◌/◌, ◌^◌, List, [], ◌∷◌, sum, true, ◌==◌}
use Rattle.std.specs.List.{filter}
use Rattle.fc_spec.specs.documents.Val.{Val}
use Rattle.fc_spec.specs.requests.Request.{Sort, by_count}
use Rattle.fc_spec.specs.requests.Ranks.{Entry, rank}

-- the greatest count first
abbrev pub count_first : Sort
count_first = record { by = by_count; descending = true }

-- a value with its count on each shard
pub record Counted : Type 0 where
  pub val : Val
  pub counts : List ℕ

-- its count over all of them
abbrev pub counted_entry : Counted → Entry
counted_entry c = record { val = c.val; stats = record { count = sum c.counts; values = [] } }

-- the count of the first of some entries; 1 where there is none
abbrev pub count_or_one : List Entry → ℕ
count_or_one [] = 1
count_or_one (e ∷ es) = e.stats.count

-- the count of the entry of this rank; 1 where there is none. Of rank k it is the (k + 1)-th greatest
abbrev pub count_at : List Entry → ℕ → ℕ
count_at V k = count_or_one (filter (λ e. rank count_first V e == k) V)

-- one of m parts of a number, rounded up
abbrev pub share : ℕ → ℕ → ℕ
share n m = (n + (m - 1)) / m

-- the least count that each of m shards is asked for, where these entries have the parts of values that were told, and the first k of all values are looked for: its share of the k-th greatest count
abbrev pub least_count : ℕ → ℕ → List Entry → ℕ
least_count m zero V = 2 ^ 64 - 1
least_count m (suc k) V = share (count_at V k) m
