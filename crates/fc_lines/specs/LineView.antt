-- What a line that was read stands for in the definitions.
use Rattle.std.specs.Prelude.{Result}
use Rattle.std.specs.Result.{result_map_both}
use Rattle.fc_spec.specs.scripts.AskedScripts.{Asked, AskedLine}
use Rattle.fc_spec.specs.scripts.Script.{add, delete, commit, sync, asks}
use Rattle.fc_docs.specs.View.{block_view}
use Rattle.fc_request.specs.FaultView.{request_fault_view}
use Rattle.fc_request.specs.RequestView.{request_view}
use Rattle.fc_request.specs.declared.fault.RequestFault.{RequestFault}
use Rattle.fc_request.specs.declared.request.Request.{Request}
use Rattle.fc_lines.specs.declared.line.Line.TheVariants as line
use Rattle.fc_lines.specs.declared.line.Line.{Line}

-- a request, or its fault
abbrev pub asked_view : Result Request RequestFault → Asked
asked_view asked = result_map_both request_view request_fault_view asked

abbrev pub line_view : Line → AskedLine
line_view (line.Add shard block) = add shard (block_view block)
line_view (line.Delete shard id) = delete shard id
line_view (line.Commit shard) = commit shard
line_view line.Sync = sync
line_view (line.Search session asked) = asks session (asked_view asked.value)
