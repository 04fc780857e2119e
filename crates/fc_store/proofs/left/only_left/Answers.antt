use Rattle.std.proofs.Common.{◌≡◌, count_by, length, map, sym, rules}
use Rattle.fc_spec.specs.documents.Operations.{blocks_added}
use Rattle.fc_spec.specs.words.Lists.{joined}
use Rattle.fc_docs.specs.View.{batch_view}
use Rattle.fc_store.proofs.NextSegments.{all_live}
use Rattle.fc_store.proofs.left.only_left.Goals as goal

pub returns-then-count-len : goal.returns-then-count-len
returns-then-count-len c =
    let same : count_by (λ here. here) c.args.left.now ≡ length c.args.left.now = search rules in
    sym (all_live (blocks_added (joined (map batch_view c.args.batches.items))) c.args.left.now c.requires same)
