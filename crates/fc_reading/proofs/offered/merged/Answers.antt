use Rattle.std.proofs.Common.{◌∙◌}
use Rattle.fc_reading.proofs.Merging.{merged_groups}
use Rattle.fc_reading.proofs.offered.merged.Goals as goal

pub returns : goal.returns
returns c = λ f same. c.in_ok-list.ensures ∙ merged_groups f c.args.shards.now _ (c.in_ok-by_value.ensures f same)
