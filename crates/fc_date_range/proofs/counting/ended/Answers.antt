use Rattle.std.proofs.Common.{nat_le, rules, of_calls}
use Rattle.std.proofs.lemmas.Fn.{always_returns_same}
use Rattle.std.proofs.lemmas.List.Sorted.{IsPartitionedBy-leb}
use Rattle.fc_date_range.proofs.EndedSpans.{ended_from, left_from, past_in_order}
use Rattle.fc_date_range.proofs.counting.ended.Goals as goal

pub returns-clause-ended : goal.returns-clause-ended
returns-clause-ended c =
    let spans = c.args.spans.now in
    let ord = c.args.ord in
    let point = c.partition_point.ensures.partitioned (λ span. nat_le span.past ord) (always_returns_same _ _ _ (λ a r f k. search (rules, of_calls))) (IsPartitionedBy-leb (λ span. span.past) spans ord (past_in_order spans c.requires)) in
    ended_from spans ord c.partition_point.result c.partition_point.ensures.bound point.0

pub returns-clause-left : goal.returns-clause-left
returns-clause-left c =
    let spans = c.args.spans.now in
    let ord = c.args.ord in
    let point = c.partition_point.ensures.partitioned (λ span. nat_le span.past ord) (always_returns_same _ _ _ (λ a r f k. search (rules, of_calls))) (IsPartitionedBy-leb (λ span. span.past) spans ord (past_in_order spans c.requires)) in
    left_from spans ord c.partition_point.result point.1
