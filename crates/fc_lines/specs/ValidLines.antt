-- Lines that are valid for a schema.
use Rattle.std.specs.Prelude.{◌<◌, IfOk, IfSome}
use Rattle.fc_spec.specs.documents.Schema.{Schema}
use Rattle.fc_spec.specs.documents.ValidBlocks.{IsBlockOf}
use Rattle.fc_spec.specs.scripts.Script.{Line, add, delete, commit, sync, asks}
use Rattle.fc_request.specs.RequestView.{IsRoot}
use Rattle.fc_lines.specs.declared.line.Line as code
use Rattle.fc_lines.specs.declared.line.Line.TheVariants as line

-- a block is of the schema, and shards are among its shards
abbrev pub IsLineOf : {A : Type 0} → Schema → Line A → Type 0
IsLineOf s (add shard block) = (shard < s.shards) × IsBlockOf s block
IsLineOf s (delete shard id) = shard < s.shards
IsLineOf s (commit shard) = IfSome shard (λ n. n < s.shards)
IsLineOf s sync = Unit {0}
IsLineOf s (asks session a) = Unit {0}

-- the request of a search, where it has no fault, stands in a root as requests do
abbrev pub HasRoot : code.Line → Type 0
HasRoot (line.Search session asked) = IfOk asked.value (λ r. IsRoot r.root)
HasRoot (line.Add shard block) = Unit {0}
HasRoot (line.Delete shard id) = Unit {0}
HasRoot (line.Commit shard) = Unit {0}
HasRoot line.Sync = Unit {0}
