use Rattle.std.proofs.Common.{◌≡◌, ◌∙◌}
use Rattle.fc_request.specs.RequestView.{request_view}
use Rattle.fc_spec.specs.replies.Distributed.{reply_over}
use Rattle.fc_spec.specs.words.Lists.{numbers_below}
use Rattle.fc_told.specs.TreeView.{tree_view}
use Rattle.fc_coord.specs.TreeReading.{over_tree}
use Rattle.fc_coord.proofs.ReadTrees.{reply_read}
use Rattle.fc_coord.proofs.reading.merged_reply.Goals as goal

pub returns : goal.returns
returns c A tells =
    let nodes = (request_view c.args.request.now).nodes in
    let all : c.deref.result.now ≡ numbers_below c.args.shards = c.deref.ensures.value ∙ c.in_ok-numbers.ensures.numbers in
    c.in_ok-reply.ensures ∙ (λ j. reply_over over_tree nodes (all j) (c.new.ensures j)) ∙ reply_read (tree_view c.args.told.now) A tells nodes (numbers_below c.args.shards)
