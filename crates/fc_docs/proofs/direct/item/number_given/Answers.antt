use Rattle.std.proofs.Common.{◌≡◌, ◌≤◌, length, IsTrue, ap, ◌∙◌, rules, arith, w64, to_z, of_z}
use Rattle.fc_spec.specs.documents.IntegerTexts.{decimal_text, is_long}
use Rattle.fc_base.specs.View.{field_type_view}
use Rattle.fc_docs.proofs.TokenItems.{holds_texts_where, holds_no_dates_where, holds_longs_where, number_as_text, number_as_long}
use Rattle.fc_docs.proofs.direct.item.number_given.Goals as goal

pub returns-in_ok-text-in-Str : goal.returns-in_ok-text-in-Str
returns-in_ok-text-in-Str c =
    let z = c.in-Some.number in
    let same : to_z w64 (of_z w64 z) ≡ z = search rules in
    let is : c.in_ok-text-in-Str.text ≡ decimal_text z = c.in_ok-text-in-Str.ensures.text ∙ ap decimal_text same in
    let few : length (decimal_text z) ≤ 32766 = rw (← is) (omega (arith, c.in_ok-text-in-Str.ensures.short)) in
    rw is (number_as_text (field_type_view c.args.kind) (holds_texts_where c.args.kind c.in-Str.is) (holds_no_dates_where c.args.kind c.in-Str.is) c.args.digits.now z c.in-Some.ensures few)

pub returns-in-Long : goal.returns-in-Long
returns-in-Long c =
    let z = c.in-Some.number in
    let same : to_z w64 (of_z w64 z) ≡ z = search rules in
    let fits : IsTrue (is_long z) = search rules in
    rw same (number_as_long (field_type_view c.args.kind) (holds_longs_where c.args.kind c.in-Long.is) c.args.digits.now z c.in-Some.ensures fits)
