-- What a shard stands for, as far as a script's lines have been gathered.
use Rattle.std.specs.Prelude.{map}
use Rattle.fc_docs.specs.View.{op_view}
use Rattle.fc_script.specs.Gathered as gathered
use Rattle.fc_script.specs.PartsView.{batches_view}
use Rattle.fc_script.specs.declared.gather.shards.ShardSoFar.{ShardSoFar}

abbrev pub shard_view : ShardSoFar → gathered.ShardSoFar
shard_view x = record { batches = batches_view x.batches.items; waiting = map op_view x.waiting.items }
