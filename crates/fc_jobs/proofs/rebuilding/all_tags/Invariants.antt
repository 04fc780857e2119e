use Rattle.std.proofs.Common.{◌≡◌, ◌++◌, drop}
use Rattle.fc_jobs.specs.Scopes.{tags_in}
use Rattle.fc_jobs.proofs.rebuilding.all_tags.Given as goal

abbrev pub invariant-loop-around : goal.invariant-loop-around
invariant-loop-around l = l.tags.items ++ tags_in (drop l.around-index l.enclosing) ≡ tags_in l.enclosing
