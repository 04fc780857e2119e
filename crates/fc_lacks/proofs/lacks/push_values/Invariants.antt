use Rattle.std.proofs.Common.{◌≡◌, ◌++◌, IfSome, drop, map}
use Rattle.std.specs.Arc.{arc_value}
use Rattle.std.specs.List.{flat_map}
use Rattle.fc_spec.specs.messages.Lacks.{want_of}
use Rattle.fc_spec.specs.requests.Buckets.{value}
use Rattle.fc_base.specs.View.{val_view}
use Rattle.fc_refine.specs.AskView.{way_view}
use Rattle.fc_reading.specs.declared.candidate.Candidate.{Candidate}
use Rattle.fc_lacks.specs.Lacking.{lacked_by}
use Rattle.fc_lacks.specs.LackView.{lack_view}
use Rattle.fc_lacks.proofs.lacks.push_values.Given as goal

abbrev pub invariant-loop-one : goal.invariant-loop-one
invariant-loop-one g l =
    let F = λ (one : Candidate g.row.R-Bucket.Denot). lacked_by g.R.BucketReading.has l.shards (g.R.BucketReading.held one.bucket) (want_of (way_view l.way) l.node (value (val_view one.val))) in
    record {
      made : IfSome l.made (λ path. (arc_value path).items ≡ l.way);
      lacks : map lack_view l.lacks.items ++ flat_map F (drop l.one-index l.values) ≡ map lack_view l.fn.lacks.items ++ flat_map F l.values;
    }
