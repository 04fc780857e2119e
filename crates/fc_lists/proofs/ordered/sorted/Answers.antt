use Rattle.std.proofs.Common.{rules, of_calls}
use Rattle.std.proofs.lemmas.Fn.{always_returns_same}
use Rattle.fc_lists.proofs.SortedEntries.{rise_of_sorted}
use Rattle.fc_lists.proofs.ordered.sorted.Goals as goal

pub returns-clause-rising : goal.returns-clause-rising
returns-clause-rising c =
    rise_of_sorted _ (c.in_ok-sort_by_key.ensures.sorted (λ entry. entry.item) (always_returns_same _ _ _ (λ a r f k. search (rules, of_calls))))
