-- The merged reply: the text of the distributed reply over the buckets that messages hold.
use Rattle.std.specs.Prelude.{ℕ, ◌+◌, List, [], ◌∷◌, ◌++◌, Option, None, Some, slice_index_or}
use Rattle.fc_spec.specs.documents.Val.{Val}
use Rattle.fc_spec.specs.words.Lists.{numbers_below}
use Rattle.fc_spec.specs.requests.Request.{Stat, Request}
use Rattle.fc_spec.specs.requests.Statistics.{StatValue, value_over, combined_value}
use Rattle.fc_spec.specs.replies.Reading.{Reading}
use Rattle.fc_spec.specs.replies.Distributed.{reply_over}
use Rattle.fc_spec.specs.replies.Reply as reply
use Rattle.fc_spec.specs.messages.Message.{Way}
use Rattle.fc_spec.specs.messages.Held.{HeldBucket, Told, held, row_at, listed_values}

-- the count of what is held; nothing adds nothing
abbrev pub held_count : Option HeldBucket → ℕ
held_count None = 0
held_count (Some b) = b.stats.count

-- a statistic of what is held, by its number; nothing has that of no place
abbrev pub held_value : ℕ → Stat → Option HeldBucket → StatValue
held_value m s None = value_over s []
held_value m s (Some b) = slice_index_or b.stats.values m (value_over s [])

-- the count and a statistic of a bucket over some shards, combined
abbrev pub count_held : List Told → List ℕ → Way → ℕ
count_held A [] way = 0
count_held A (i ∷ H) way = held_count (held A i way) + count_held A H way

abbrev pub value_held : List Told → ℕ → Stat → List ℕ → Way → StatValue
value_held A m s [] way = value_over s []
value_held A m s (i ∷ H) way = combined_value s.of (held_value m s (held A i way)) (value_held A m s H way)

-- the values that a shard lists of the n-th node of a bucket
abbrev pub values_held : ℕ → Option HeldBucket → List Val
values_held n None = []
values_held n (Some b) = listed_values (row_at n b.nodes b.rows)

-- the domain of a node: the bucket around it, and the node's number
pub record NodeOf : Type 0 where
  pub way : Way
  pub node : ℕ

-- a bucket is the way to it
abbrev pub over_held : List Told → Reading Way NodeOf
over_held A = record {
  domain_on = λ n f H way. record { way = way; node = n };
  bucket_at = λ kind Y key. Y.way ++ record { node = Y.node; key = key } ∷ [];
  count_on = count_held A;
  statistic_on = value_held A;
  offered_by = λ t inner Y i. values_held Y.node (held A i Y.way);
}

-- the merged reply of n shards
abbrev pub merged : Request → ℕ → List Told → reply.Bucket
merged r n A = reply_over (over_held A) r.nodes (numbers_below n) []
