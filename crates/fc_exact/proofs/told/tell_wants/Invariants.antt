use Rattle.std.proofs.Common.{◌≡◌, ◌++◌, map, drop}
use Rattle.fc_spec.specs.messages.TopRounds.{told_wanted}
use Rattle.fc_partial.specs.BucketView.{buckets_view}
use Rattle.fc_refine.specs.AskView.{wants_view}
use Rattle.fc_exact.specs.View.{told_view}
use Rattle.fc_exact.proofs.told.tell_wants.Given as goal

abbrev pub invariant-loop-want : goal.invariant-loop-want
invariant-loop-want l =
    map told_view l.told.items ++ told_wanted l.shard (wants_view (drop l.want-index l.wants)) (buckets_view l.left.rest.items)
    ≡ map told_view l.fn.told.items ++ told_wanted l.shard (wants_view l.wants) (buckets_view l.fn.buckets.items)
