use Rattle.std.proofs.Common.{◌≡◌, ℕ, ◌<◌, true}
use Rattle.fc_spec.specs.words.Lists.{is_empty}
use Rattle.fc_request.specs.RequestView.{request_view}
use Rattle.fc_told.specs.TreeView.{tree_view}
use Rattle.fc_coord.specs.TreeReading.{lacking_in}
use Rattle.fc_coord.proofs.rounds.next_lacks.Given as goal

abbrev pub invariant-loop-depth : goal.invariant-loop-depth
invariant-loop-depth l = (e : ℕ) → e < l.depth → is_empty (lacking_in (request_view l.request) l.shards (tree_view l.told) e) ≡ true
