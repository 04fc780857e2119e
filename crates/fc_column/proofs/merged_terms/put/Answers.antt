use Rattle.std.proofs.Common.{◌≡◌, ◌∙◌, [], ◌-◌, length, get_or, ap, sym, subst, arith}
use Rattle.fc_spec.specs.documents.Columns.{IsAscending}
use Rattle.fc_spec.specs.documents.Val.{text_cmp}
use Rattle.fc_column.specs.MergedTerms.{IsNotBelow}
use Rattle.fc_column.specs.Terms.{has_text}
use Rattle.fc_column.proofs.MergedOrder.{is_the_last, ascending_push, not_below_more, not_below_push, known_text}
use Rattle.fc_column.proofs.merged_terms.put.Goals as goal

pub returns-then-is_last-clause-below : goal.returns-then-is_last-clause-below
returns-then-is_last-clause-below c = λ t from. not_below_more c.args.terms.now.items c.requires.ascending c.args.text c.requires.above t from

pub returns-then-is_last-clause-text : goal.returns-then-is_last-clause-text
returns-then-is_last-clause-text c =
    let terms = c.args.terms.now.items in
    let there = ap (has_text c.args.text) (sym c.deref.ensures.value) ∙ sym c.is_last.ensures ∙ c.if-is_last.true in
    let end = is_the_last terms c.requires.ascending c.args.text c.requires.above there in
    let place : c.len.result - 1 ≡ length terms - 1 = omega (arith, c.len.ensures) in
    ap (λ k. get_or terms k []) place ∙ end.1

pub returns-then-is_last-clause-texts : goal.returns-then-is_last-clause-texts
returns-then-is_last-clause-texts c = λ t.
    known_text c.args.text t c.args.terms.now.items (ap (has_text c.args.text) (sym c.deref.ensures.value) ∙ sym c.is_last.ensures ∙ c.if-is_last.true)

pub returns-clause-ascending : goal.returns-clause-ascending
returns-clause-ascending c = subst (IsAscending text_cmp) (sym c.in_ok-push.ensures.items) (ascending_push c.args.terms.now.items c.requires.ascending c.args.text c.requires.above (ap (has_text c.args.text) (sym c.deref.ensures.value) ∙ sym c.is_last.ensures ∙ c.if-is_last.false))

pub returns-clause-below : goal.returns-clause-below
returns-clause-below c = λ t from. subst (λ l. IsNotBelow l t) (sym c.in_ok-push.ensures.items)
    (not_below_push c.args.terms.now.items c.args.text t (not_below_more c.args.terms.now.items c.requires.ascending c.args.text c.requires.above t from) from)
