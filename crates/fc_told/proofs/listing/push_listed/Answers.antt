use Rattle.std.proofs.Common.{◌++◌}
use Rattle.fc_base.specs.View.{val_view}
use Rattle.fc_told.specs.ListedView.{list_of, listed_once}
use Rattle.fc_told.specs.Trees.{is_listed_by}
use Rattle.fc_told.specs.TreeView.{tree_view}
use Rattle.fc_told.proofs.Listed.{was_given, was_passed, later_sorted}
use Rattle.fc_told.proofs.listing.push_listed.Goals as goal

pub loop-shard-preserved-in-Continue-1 : goal.loop-shard-preserved-in-Continue-1
loop-shard-preserved-in-Continue-1 c =
    let v = val_view c.args.val.now in
    let es = c.loop-shard.shard-iterator in
    let t = c.in-Some.teller.now in
    let rest = c.next.new.self in
    record {
      lists = λ i. was_given v i es c.in-Some.shard.now t rest (list_of i c.args.by_shard.now ++ listed_once (is_listed_by i (tree_view c.args.bucket.now)) v) (list_of i c.loop-shard.by_shard) (list_of i c.push_value.new.by_shard)
          c.in-Some.ensures.steps c.loop-shard.invariant.sorted c.if-teller.true (c.loop-shard.invariant.lists i) (c.in_ok-push_value.ensures i);
      sorted = later_sorted es c.in-Some.shard.now t rest c.in-Some.ensures.steps c.loop-shard.invariant.sorted;
    }

pub loop-shard-preserved : goal.loop-shard-preserved
loop-shard-preserved c =
    let v = val_view c.args.val.now in
    let es = c.loop-shard.shard-iterator in
    let t = c.in-Some.teller.now in
    let rest = c.next.new.self in
    record {
      lists = λ i. was_passed v i es c.in-Some.shard.now t rest (list_of i c.args.by_shard.now ++ listed_once (is_listed_by i (tree_view c.args.bucket.now)) v) (list_of i c.loop-shard.by_shard)
          c.in-Some.ensures.steps c.loop-shard.invariant.sorted c.if-teller.false (c.loop-shard.invariant.lists i);
      sorted = later_sorted es c.in-Some.shard.now t rest c.in-Some.ensures.steps c.loop-shard.invariant.sorted;
    }
