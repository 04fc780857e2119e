use Rattle.std.proofs.Common.{◌≡◌, ◌++◌, map}
use Rattle.fc_partial.specs.BucketView.{bare_part, bucket_view}
use Rattle.fc_partial.specs.View.{key_view}
use Rattle.fc_answers.specs.Listed.{entry_or_none}
use Rattle.fc_jobs.proofs.filling.filled.Given as goal

abbrev pub invariant-loop-key : goal.invariant-loop-key
invariant-loop-key l =
    map bucket_view l.list.items ++ map bare_part (map (entry_or_none l.tally.stats l.tally.entries) (map key_view l.key-iterator.rest.items))
    ≡ map bare_part (map (entry_or_none l.tally.stats l.tally.entries) (map key_view l.fn.keys.items))
