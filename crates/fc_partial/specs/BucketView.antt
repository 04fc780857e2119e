-- What partial buckets and messages stand for in the definitions.
use Rattle.std.specs.Prelude.{List, [], ◌∷◌, map}
use Rattle.fc_spec.specs.requests.Buckets as definition
use Rattle.fc_spec.specs.requests.Statistics as statistics
use Rattle.fc_spec.specs.messages.Message.{Partials, no_partials, partial, Rows, no_rows, row}
use Rattle.fc_partial.specs.View.{key_view}
use Rattle.fc_partial.specs.StatsView.{stats_view}
use Rattle.fc_partial.specs.declared.bucket.Message.{Message}
use Rattle.fc_partial.specs.declared.bucket.PartialBucket.{PartialBucket}
use Rattle.fc_partial.specs.declared.bucket.PartialBucket.TheOpen.{PartialBucket-F, PartialNode-F}
use Rattle.fc_partial.specs.declared.bucket.PartialBucket.TheFolds.{fold-PartialBucket, fold-PartialNode}
use Rattle.fc_partial.specs.declared.bucket.PartialNode.{PartialNode}

-- a bucket without those behind it
pub record Part : Type 0 where
  pub key : definition.Key
  pub stats : statistics.Stats
  pub rows : Rows

-- buckets, and the lists of the nested facets, in their order
abbrev pub linked : List Part → Partials
linked [] = no_partials
linked (p ∷ ps) = partial p.key p.stats p.rows (linked ps)

abbrev pub linked_rows : List Partials → Rows
linked_rows [] = no_rows
linked_rows (p ∷ ps) = row p (linked_rows ps)

abbrev pub bucket_step : PartialBucket-F Part Partials → Part
bucket_step b = record { key = key_view b.key; stats = stats_view b.stats; rows = linked_rows b.nodes.items }

abbrev pub node_step : PartialNode-F Part Partials → Partials
node_step n = linked n.buckets.items

abbrev pub bucket_view : PartialBucket → Part
bucket_view = fold-PartialBucket Part Partials bucket_step node_step

abbrev pub node_view : PartialNode → Partials
node_view = fold-PartialNode Part Partials bucket_step node_step

abbrev pub buckets_view : List PartialBucket → Partials
buckets_view bs = linked (map bucket_view bs)

abbrev pub rows_view : List PartialNode → Rows
rows_view ns = linked_rows (map node_view ns)

abbrev pub message_view : Message → Partials
message_view m = buckets_view m.buckets.items

-- a bucket for each key with its statistics, in order, with nothing nested
abbrev pub bare : List (definition.Key × statistics.Stats) → Partials
bare [] = no_partials
bare (e ∷ es) = partial e.0 e.1 no_rows (bare es)

abbrev pub bare_part : definition.Key × statistics.Stats → Part
bare_part e = record { key = e.0; stats = e.1; rows = no_rows }
