-- A tree of what was told.
use Rattle.std.specs.Prelude.{◌≡◌, ◌≢◌, ◌↔◌, AllPairs, ℕ, ◌<◌, ◌^◌, List, ◌++◌, sum_by, option_map, IsTrue, slice_index_or, pos}
use Rattle.std.specs.List.Sorted.{IsStrictlySortedBy}
use Rattle.fc_spec.specs.requests.Request.{Request}
use Rattle.fc_spec.specs.requests.Statistics.{number}
use Rattle.fc_spec.specs.messages.Message.{Partials, Way, Ask}
use Rattle.fc_spec.specs.messages.KeyOrder.{key_cmp}
use Rattle.fc_spec.specs.messages.MessageShape.{is_shaped}
use Rattle.fc_spec.specs.messages.Held.{Told, held, held_in, told_by}
use Rattle.fc_spec.specs.messages.Merged.{held_count, values_held}
use Rattle.fc_spec.specs.laws.LacksLaws.{TellOnce}
use Rattle.fc_spec.specs.laws.SumsLaw.{size_of, held_size, SumsFit}
use Rattle.fc_told.specs.Trees.{Teller, Tree, tellers_in, count_in, size_in, forks_in, branches_at, keys_in, at, stats_told, offered_at}
use Rattle.fc_told.specs.Adding.{all_added}
use Rattle.fc_told.specs.Fitting.{all_fit}

-- the tree has of each bucket what each shard has told of it, each shard once, the values that each listed of its nodes, and the sums over all that was told; the keys of each node ascend
pub record Tells (T : Tree) (A : List Told) : Type 0 where
  pub stats : (i : ℕ) (way : Way) → stats_told i (at way T) ≡ option_map (λ b. b.stats) (held A i way)
  pub offers : (i n : ℕ) (way : Way) → offered_at n i (at way T) ≡ values_held n (held A i way)
  pub apart : (way : Way) → AllPairs (λ (t u : Teller). t.shard ≢ u.shard) (tellers_in (at way T))
  pub counts : (way : Way) → count_in (at way T) ≡ sum_by (λ t. held_count (held_in t way)) A
  pub sizes : (m : ℕ) (way : Way) → size_in m (at way T) ≡ sum_by (λ t. held_size m (held_in t way)) A
  pub ascends : (n : ℕ) (way : Way) → IsStrictlySortedBy key_cmp (keys_in (branches_at n (forks_in (at way T))))

-- at each bucket the counts of those who told it add up to less than 2^64, and the absolute values of each of its numbers to less than 2^63
pub record TellersFit (T : Tree) : Type 0 where
  pub counts : (way : Way) → sum_by (λ (t : Teller). t.stats.count) (tellers_in (at way T)) < 2 ^ 64
  pub sizes : (m : ℕ) (way : Way) → sum_by (λ (t : Teller). size_of (slice_index_or t.stats.values m (number (pos 0)))) (tellers_in (at way T)) < 2 ^ 63

-- with the message of a shard, in which no bucket is told that was told before and whose sums fit, the tree tells of that too
abbrev pub TellsMore : Type 0
TellsMore = (r : Request) (T : Tree) (A : List Told) (i : ℕ) (ask : Ask) (m : Partials) → IsTrue (is_shaped r ask m) → Tells T A → TellOnce (A ++ told_by r.nodes i ask m) → SumsFit (A ++ told_by r.nodes i ask m)
    → Tells (all_added (told_by r.nodes i ask m) T) (A ++ told_by r.nodes i ask m)

-- the test on the tree is exact
abbrev pub FitsExactly : Type 0
FitsExactly = (r : Request) (T : Tree) (A : List Told) (i : ℕ) (ask : Ask) (m : Partials) → IsTrue (is_shaped r ask m) → Tells T A → SumsFit A → TellOnce (A ++ told_by r.nodes i ask m)
    → IsTrue (all_fit T (told_by r.nodes i ask m)) ↔ SumsFit (A ++ told_by r.nodes i ask m)

-- where sums fit over what was told, once by each shard, they do over the tellers
abbrev pub SumsOfTellers : Type 0
SumsOfTellers = (T : Tree) (A : List Told) → Tells T A → TellOnce A → SumsFit A → TellersFit T
