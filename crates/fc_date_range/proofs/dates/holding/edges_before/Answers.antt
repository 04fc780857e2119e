use Rattle.std.proofs.Common.{◌≡◌, ◌≤◌, true, false, List, [], length, get_or, subst, sym, ap, arith, rules, of_calls}
use Rattle.std.specs.Ordering.{is_lt}
use Rattle.std.proofs.lemmas.Fn.{always_returns_same}
use Rattle.fc_spec.specs.documents.Columns.{IsAscending}
use Rattle.fc_spec.specs.documents.Val.{Text, text_cmp}
use Rattle.fc_spec.specs.requests.DateGaps.{is_before}
use Rattle.fc_column.proofs.SortedTerms.{below_in_front}
use Rattle.fc_facet.specs.KindView.{date_range_view}
use Rattle.fc_date_range.proofs.Edges.{ascending}
use Rattle.fc_date_range.proofs.NearDates.{near_gaps}
use Rattle.fc_date_range.proofs.dates.holding.edges_before.Goals as goal

pub returns-clause-near : goal.returns-clause-near
returns-clause-near c =
    let g = date_range_view c.args.range.now in
    let t = c.args.date.now in
    let n = c.partition_point.result in
    let edges = c.deref.result.now in
    let is : edges ≡ g.edges = c.deref.ensures.value in
    let bound : n ≤ length edges = c.partition_point.ensures.bound in
    let sorted = subst (IsAscending text_cmp) (sym is) (ascending g.edges c.requires.ascending) in
    let point = c.partition_point.ensures.partitioned (λ edge. is_lt (text_cmp edge t)) (always_returns_same _ _ _ (λ a r f k. search (rules, of_calls))) (below_in_front edges sorted t) in
    near_gaps g c.requires t n (subst (λ (es : List Text). n ≤ length es) is bound)
    (λ k before. subst (λ (es : List Text). is_before (get_or es k []) t ≡ true) is (point.0 k [] (omega arith) before))
    (λ k from there. subst (λ (es : List Text). is_before (get_or es k []) t ≡ false) is (point.1 k [] from (omega (arith, there, ap length is))))
