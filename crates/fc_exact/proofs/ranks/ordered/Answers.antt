use Rattle.std.proofs.Common.{map, rules}
use Rattle.std.specs.Ordering.{is_lt}
use Rattle.std.proofs.lemmas.Fn.{always_returns_same}
use Rattle.std.proofs.lemmas.List.MinMax.{ranks_by}
use Rattle.fc_spec.specs.requests.Ranks.{entry_cmp}
use Rattle.fc_facet.specs.KindView.{sort_view}
use Rattle.fc_spec.proofs.requests.EntryTotal.{entry_total}
use Rattle.fc_refine.proofs.DistinctValues.{distinct_from_ascending}
use Rattle.fc_refine.proofs.SortedEntries.{sort_of}
use Rattle.fc_exact.specs.ToldView.{total_view}
use Rattle.fc_exact.proofs.ranks.ordered.Goals as goal

pub returns-clause-order : goal.returns-clause-order
returns-clause-order c =
    let s = sort_view c.args.sort in
    sort_of total_view s c.args.totals.items c.sort_by.new.self.items (distinct_from_ascending (map total_view c.args.totals.items) c.requires) c.sort_by.ensures.permutation
    (c.in_ok-sort_by.ensures.sorted (λ a b. is_lt (entry_cmp s (total_view a) (total_view b))) (ranks_by (entry_total s) total_view)
    (always_returns_same _ _ _ (λ a r q k. search rules)))
