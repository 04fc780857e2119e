use Rattle.std.proofs.Common.{count_by, subst, sym, ap, ◌∙◌, rules, of_calls}
use Rattle.std.proofs.lemmas.Fn.{always_returns_same}
use Rattle.std.specs.Ordering.{is_lt}
use Rattle.fc_spec.specs.documents.Val.{text_cmp}
use Rattle.fc_spec.specs.documents.Columns.{IsAscending}
use Rattle.fc_column.specs.Terms.{terms_of, has_text}
use Rattle.fc_column.proofs.SortedTerms.{searchable}
use Rattle.fc_column.proofs.TermLists.{has_text-terms_of, text_at_place, text_missing}
use Rattle.fc_column.proofs.text.TextColumn.ordinal_of.Goals as goal

pub returns-in-Ok-clause-found : goal.returns-in-Ok-clause-found
returns-in-Ok-clause-found c =
    let terms = c.deref.result.now in
    let text = c.args.text.now in
    let sorted = subst (IsAscending text_cmp) (sym c.deref.ensures.value) c.self.invariant.sorted in
    let known = ap terms_of (sym c.self.view_is) ∙ c.self.invariant.complete ∙ sym c.deref.ensures.value in
    let tied = c.in-Ok.ensures.position (λ term. text_cmp term text) (always_returns_same _ _ _ (λ a r f k. search (rules, of_calls))) text in
    sym (sym (has_text-terms_of text c.args.self.now) ∙ ap (has_text text) known ∙ (text_at_place terms sorted text c.in-Ok.place c.in-Ok.ensures.bound tied).0)

pub returns-in-Ok-clause-ordinal : goal.returns-in-Ok-clause-ordinal
returns-in-Ok-clause-ordinal c =
    let terms = c.deref.result.now in
    let text = c.args.text.now in
    let sorted = subst (IsAscending text_cmp) (sym c.deref.ensures.value) c.self.invariant.sorted in
    let known = ap terms_of (sym c.self.view_is) ∙ c.self.invariant.complete ∙ sym c.deref.ensures.value in
    let tied = c.in-Ok.ensures.position (λ term. text_cmp term text) (always_returns_same _ _ _ (λ a r f k. search (rules, of_calls))) text in
    sym (ap (count_by (λ term. is_lt (text_cmp term text))) known ∙ (text_at_place terms sorted text c.in-Ok.place c.in-Ok.ensures.bound tied).1)

pub returns-in-Err-clause-found : goal.returns-in-Err-clause-found
returns-in-Err-clause-found c =
    let terms = c.deref.result.now in
    let text = c.args.text.now in
    let sorted = subst (IsAscending text_cmp) (sym c.deref.ensures.value) c.self.invariant.sorted in
    let known = ap terms_of (sym c.self.view_is) ∙ c.self.invariant.complete ∙ sym c.deref.ensures.value in
    let split = c.in-Err.ensures.position (λ term. text_cmp term text) (always_returns_same _ _ _ (λ a r f k. search (rules, of_calls))) (searchable terms sorted text) in
    sym (sym (has_text-terms_of text c.args.self.now) ∙ ap (has_text text) known ∙ text_missing terms text c.in-Err.field-0 split.0 split.1)
