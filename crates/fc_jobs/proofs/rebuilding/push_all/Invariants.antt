use Rattle.std.proofs.Common.{◌≡◌, ◌++◌, drop}
use Rattle.fc_jobs.proofs.rebuilding.push_all.Given as goal

abbrev pub invariant-loop-tag : goal.invariant-loop-tag
invariant-loop-tag l = l.tags.items ++ drop l.tag-index l.more ≡ l.initial.tags.items ++ l.more
