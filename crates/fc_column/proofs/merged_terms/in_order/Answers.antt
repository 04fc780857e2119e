use Rattle.std.proofs.Common.{rules}
use Rattle.std.proofs.lemmas.Cmp.{nat_list_cmp_total}
use Rattle.std.proofs.lemmas.Fn.{always_returns_same}
use Rattle.std.proofs.lemmas.List.MinMax.{ranks_by}
use Rattle.std.specs.Ordering.{is_lt}
use Rattle.fc_spec.specs.documents.Val.{text_cmp}
use Rattle.fc_column.proofs.MergedSorted.{never_fall}
use Rattle.fc_column.proofs.merged_terms.in_order.Goals as goal

pub returns-clause-order : goal.returns-clause-order
returns-clause-order c =
    never_fall c.sort_by.new.self.items
    (c.in_ok-sort_by.ensures.sorted (λ a b. is_lt (text_cmp a.0 b.0)) (ranks_by nat_list_cmp_total (λ one. one.0)) (always_returns_same _ _ _ (λ a r q k. search rules)))
