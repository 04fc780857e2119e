-- The certificate of top values: a count that enough listed values reach, and no other value.
use Rattle.std.specs.Prelude.{◌≡◌, ℕ, suc, ◌+◌, ◌<◌, ◌≤◌, ◌⊎◌, List, [], ◌∷◌, ◌++◌, map, length, sum, Bool, false, ◌==◌, nat_le, Some, All, count_by}
use Rattle.std.specs.List.{filter, flat_map, list_any}
use Rattle.fc_spec.specs.documents.Val.{Val, distinct}
use Rattle.fc_spec.specs.requests.Ranks.{Entry, page}
use Rattle.fc_spec.specs.requests.Least.{count_first, Counted, counted_entry, count_at, share}
use Rattle.fc_spec.specs.documents.World.{World, Place, on_shards}
use Rattle.fc_spec.specs.requests.Request.{Stat, Terms, no_nodes, Request}
use Rattle.fc_spec.specs.requests.Statistics.{stats_over}
use Rattle.fc_spec.specs.replies.Values.{value_places, entries_in}
use Rattle.fc_spec.specs.replies.Reading.{PathDomain, offered, over_places}
use Rattle.fc_spec.specs.replies.Tops.{printed_values, values_from, least_in}

-- the values of a page, the greatest count first, of those with at least mincount
abbrev pub counted_page : (offset limit mincount : ℕ) → List Counted → List Entry
counted_page offset limit mincount table = page count_first offset (Some limit) (filter (λ e. nat_le mincount e.stats.count) (map counted_entry table))

-- the values that are listed
abbrev pub listed_of : (Val → Bool) → List Counted → List Counted
listed_of listed table = filter (λ c. listed c.val) table

-- t certifies that the first k are listed: k listed values reach it, or it is 1; and no other value reaches it
pub record IsCertified (listed : Val → Bool) (k t : ℕ) (table : List Counted) : Type 0 where
  pub reached : (t ≡ 1) ⊎ (k ≤ count_by (λ c. nat_le t (sum c.counts)) (listed_of listed table))
  pub others : All (λ c. listed c.val ≡ false → sum c.counts < t) table

-- then no value that is not listed plays a part in a page that ends there, whatever mincount; each value has a count
abbrev pub CertifiedAreEnough : Type 0
CertifiedAreEnough = (listed : Val → Bool) (t : ℕ) (table : List Counted) (offset limit mincount : ℕ) → All (λ c. 1 ≤ sum c.counts) table → IsCertified listed (offset + limit) t table
    → counted_page offset limit mincount table ≡ counted_page offset limit mincount (listed_of listed table)

-- a value whose count on each of m shards is below a share of t does not reach t
abbrev pub SharesAreEnough : Type 0
SharesAreEnough = (t : ℕ) (counts : List ℕ) → 1 ≤ sum counts → All (λ n. n < share t (length counts)) counts → sum counts < t

-- as many entries as are asked for reach the count of that rank, or it is 1
abbrev pub RanksAreReached : Type 0
RanksAreReached = (V : List Entry) (k : ℕ) → (count_at V k ≡ 1) ⊎ (suc k ≤ count_by (λ e. nat_le (count_at V k) e.stats.count) V)

-- ---- over places

-- no number stands twice
abbrev pub AreDifferent : List ℕ → Type 0
AreDifferent [] = Unit {0}
AreDifferent (i ∷ H) = (list_any (λ j. j == i) H ≡ false) × AreDifferent H

-- the values that a shard lists: what it offers, and the values from the least count on
abbrev pub listed_by : Request → World → Terms → List ℕ → PathDomain → ℕ → List Val
listed_by r W t H Y i = offered t no_nodes Y.places i ++ values_from t (least_in (over_places r W) t H Y) Y.places i

-- each listed value with its count over all places
abbrev pub entries_listed : Request → World → Terms → List ℕ → PathDomain → List Entry
entries_listed r W t H Y = map (λ v. record { val = v; stats = stats_over [] (value_places t v Y.places) }) (distinct (flat_map (listed_by r W t H Y) H))

-- what is printed of the listed values of a facet with a limit is what is printed of all values; its domain is on the shards H, each named once
abbrev pub TopsAreListed : Type 0
TopsAreListed = (r : Request) (W : World) (t : Terms) (limit : ℕ) (H : List ℕ) (Y : PathDomain) → t.sort ≡ count_first → t.limit ≡ Some limit → AreDifferent H → on_shards H Y.places ≡ Y.places
    → printed_values t (entries_listed r W t H Y) ≡ printed_values t (entries_in t [] Y.places)

-- by count, statistics play no part in what is printed
abbrev pub TopsLookAtCounts : Type 0
TopsLookAtCounts = (t : Terms) (ss : List Stat) (Y : List Place) → t.sort ≡ count_first → printed_values t (entries_in t ss Y) ≡ printed_values t (entries_in t [] Y)
