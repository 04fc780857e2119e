use Rattle.std.proofs.Common.{◌≡◌, ◌++◌, IfSome, drop, map}
use Rattle.std.specs.Arc.{arc_value}
use Rattle.fc_spec.specs.messages.Lacks.{want_of}
use Rattle.fc_spec.specs.requests.Buckets.{value}
use Rattle.fc_base.specs.View.{val_view}
use Rattle.fc_refine.specs.AskView.{way_view}
use Rattle.fc_lacks.specs.Lacking.{lacked_by}
use Rattle.fc_lacks.specs.LackView.{lack_view}
use Rattle.fc_lacks.proofs.lacks.push_value.Given as goal

abbrev pub invariant-loop-shard : goal.invariant-loop-shard
invariant-loop-shard g l =
    let X = g.R.BucketReading.held l.one.bucket in
    let w = want_of (way_view l.way) l.node (value (val_view l.one.val)) in
    record {
      made : IfSome l.made (λ path. (arc_value path).items ≡ l.way);
      lacks : map lack_view l.lacks.items ++ lacked_by g.R.BucketReading.has (drop l.shard-index l.shards) X w ≡ map lack_view l.fn.lacks.items ++ lacked_by g.R.BucketReading.has l.shards X w;
    }
