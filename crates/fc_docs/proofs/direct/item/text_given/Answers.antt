use Rattle.std.proofs.Common.{◌≡◌, IsTrue, Some, sym, ap, ◌∙◌, rules, arith, w64, to_z, of_z}
use Rattle.fc_spec.specs.documents.IntegerTexts.{is_long}
use Rattle.fc_base.specs.View.{field_type_view}
use Rattle.fc_docs.proofs.TokenItems.{holds_texts_where, holds_no_dates_where, holds_longs_where, holds_dates_where, text_as_text, text_as_long, text_as_date}
use Rattle.fc_docs.proofs.direct.item.text_given.Goals as goal

pub returns-in_ok-new-in-Str : goal.returns-in_ok-new-in-Str
returns-in_ok-new-in-Str c =
    rw c.in_ok-new-in-Str.ensures (text_as_text (field_type_view c.args.kind) (holds_texts_where c.args.kind c.in-Str.is) (holds_no_dates_where c.args.kind c.in-Str.is) c.args.text.now (omega arith))

pub returns-in-Some : goal.returns-in-Some
returns-in-Some c =
    let z = c.in-Some.number in
    let same : to_z w64 (of_z w64 z) ≡ z = search rules in
    let fits : IsTrue (is_long z) = search rules in
    rw same (text_as_long (field_type_view c.args.kind) (holds_longs_where c.args.kind c.in-Long.is) c.args.text.now z (omega arith) (sym c.in-Some.ensures) fits)

pub returns-in_ok-new-in-Some-canonical : goal.returns-in_ok-new-in-Some-canonical
returns-in_ok-new-in-Some-canonical c =
    let said = sym c.in-Some-canonical.ensures ∙ ap Some (sym c.text.ensures.bytes) in
    rw c.in_ok-new-in-Some-canonical.ensures (text_as_date (field_type_view c.args.kind) (holds_dates_where c.args.kind c.in-Date.is) c.args.text.now c.text.result.now said (omega arith))
