use Rattle.std.proofs.Common.{rules, of_calls}
use Rattle.std.proofs.lemmas.Fn.{always_returns_same}
use Rattle.fc_count.proofs.SortedRuns.{rise_of_sorted, same_of_stable}
use Rattle.fc_count.proofs.runs.in_runs.Goals as goal

pub returns-clause-rising : goal.returns-clause-rising
returns-clause-rising c =
    rise_of_sorted _ (c.in_ok-sort_by_key.ensures.sorted (λ counting. counting.number) (always_returns_same _ _ _ (λ a r f k. search (rules, of_calls))))

pub returns-clause-same : goal.returns-clause-same
returns-clause-same c =
    same_of_stable _ _ (c.sort_by_key.ensures.stable (λ counting. counting.number) (always_returns_same _ _ _ (λ a r f k. search (rules, of_calls))))
