use Rattle.std.proofs.Common.{[], length, subst, sym, ap, ◌∙◌, arith, rules, of_calls}
use Rattle.std.specs.Ordering.{is_lt}
use Rattle.std.proofs.lemmas.Fn.{always_returns_same}
use Rattle.std.proofs.lemmas.List.{take_all}
use Rattle.fc_spec.specs.documents.Val.{text_cmp}
use Rattle.fc_spec.specs.documents.Columns.{IsAscending}
use Rattle.fc_column.specs.Terms.{terms_of}
use Rattle.fc_column.proofs.SortedTerms.{below_in_front}
use Rattle.fc_column.proofs.Prefixes.{is_up_to_prefix, prefix_in_front, prefix_order, prefix_span}
use Rattle.fc_column.proofs.text.TextColumn.with_prefix.Goals as goal

pub returns-clause-ordered : goal.returns-clause-ordered
returns-clause-ordered c =
    let terms = c.self.inside.terms.items in
    let p = c.args.prefix.now in
    let sorted = c.self.invariant.sorted in
    let low = rw c.deref.ensures.value at (c.partition_point-from.ensures.partitioned (λ term. is_lt (text_cmp term p)) (always_returns_same _ _ _ (λ a r f k. search (rules, of_calls)))
    (below_in_front c.deref.result.now (subst (IsAscending text_cmp) (sym c.deref.ensures.value) sorted) p)) in
    let high = rw c.deref-2.ensures.value at (c.partition_point-to.ensures.partitioned (is_up_to_prefix p) (always_returns_same _ _ _ (λ a r f k. let whole = take_all (length p) p (omega arith) in search (rules, of_calls, whole)))
    (prefix_in_front c.deref-2.result.now (subst (IsAscending text_cmp) (sym c.deref-2.ensures.value) sorted) p)) in
    prefix_order terms p c.partition_point-from.result c.partition_point-to.result low.0 low.1 high.0 high.1 (omega (arith, c.partition_point-from.ensures.bound, ap length c.deref.ensures.value))

pub returns-clause-within : goal.returns-clause-within
returns-clause-within c =
    let known = ap terms_of (sym c.self.view_is) ∙ c.self.invariant.complete in
    omega (arith, c.partition_point-to.ensures.bound, ap length c.deref-2.ensures.value, ap length known)

pub returns-clause-prefix : goal.returns-clause-prefix
returns-clause-prefix c =
    let terms = c.self.inside.terms.items in
    let p = c.args.prefix.now in
    let sorted = c.self.invariant.sorted in
    let known = ap terms_of (sym c.self.view_is) ∙ c.self.invariant.complete in
    let low = rw c.deref.ensures.value at (c.partition_point-from.ensures.partitioned (λ term. is_lt (text_cmp term p)) (always_returns_same _ _ _ (λ a r f k. search (rules, of_calls)))
    (below_in_front c.deref.result.now (subst (IsAscending text_cmp) (sym c.deref.ensures.value) sorted) p)) in
    let high = rw c.deref-2.ensures.value at (c.partition_point-to.ensures.partitioned (is_up_to_prefix p) (always_returns_same _ _ _ (λ a r f k. let whole = take_all (length p) p (omega arith) in search (rules, of_calls, whole)))
    (prefix_in_front c.deref-2.result.now (subst (IsAscending text_cmp) (sym c.deref-2.ensures.value) sorted) p)) in
    rw known (λ ord inside. prefix_span terms p c.partition_point-from.result c.partition_point-to.result low.0 low.1 high.0 high.1 ord [] inside)
