-- What is known of what the searches of a script ask.
use Rattle.std.specs.Prelude.{IfOk}
use Rattle.fc_spec.specs.documents.Schema.{Schema}
use Rattle.fc_spec.specs.requests.ValidRequests.{IsValidRequest}
use Rattle.fc_spec.specs.scripts.AskedScripts.{AskedLine}
use Rattle.fc_spec.specs.scripts.Script.{add, delete, commit, sync, asks}

-- the request of a search, where it has no fault, is valid
abbrev pub IsAskedOf : Schema → AskedLine → Type 0
IsAskedOf s (asks session a) = IfOk a (IsValidRequest s)
IsAskedOf s (add shard block) = Unit {0}
IsAskedOf s (delete shard id) = Unit {0}
IsAskedOf s (commit shard) = Unit {0}
IsAskedOf s sync = Unit {0}
