use Rattle.std.proofs.Common.{count_by, subst, sym, ap, ◌∙◌, rules, of_calls}
use Rattle.std.specs.Ordering.{is_le}
use Rattle.std.proofs.lemmas.Fn.{always_returns_same}
use Rattle.fc_spec.specs.documents.Val.{text_cmp}
use Rattle.fc_spec.specs.documents.Columns.{IsAscending}
use Rattle.fc_column.specs.Terms.{terms_of}
use Rattle.fc_column.proofs.SortedTerms.{up_to_in_front, terms_in_front}
use Rattle.fc_column.proofs.text.TextColumn.first_past.Goals as goal

pub returns : goal.returns
returns c =
    let terms = c.deref.result.now in
    let text = c.args.text.now in
    let sorted = subst (IsAscending text_cmp) (sym c.deref.ensures.value) c.self.invariant.sorted in
    let known = ap terms_of (sym c.self.view_is) ∙ c.self.invariant.complete ∙ sym c.deref.ensures.value in
    let point = c.partition_point.ensures.partitioned (λ term. is_le (text_cmp term text)) (always_returns_same _ _ _ (λ a r f k. search (rules, of_calls))) (up_to_in_front terms sorted text) in
    sym (ap (count_by (λ term. is_le (text_cmp term text))) known
    ∙ terms_in_front terms sorted (λ term. is_le (text_cmp term text)) c.partition_point.result c.partition_point.ensures.bound point.0 point.1)
