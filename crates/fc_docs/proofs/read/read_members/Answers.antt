use Rattle.std.proofs.Common.{◌≡◌, Some, None, Ok, string_bytes}
use Rattle.std.proofs.lemmas.Result.{err_from_is_err_and}
use Rattle.serde_json.specs.View.{view, members_view}
use Rattle.fc_base.proofs.Members.{keys_ascend}
use Rattle.fc_docs.specs.Members.{field_given}
use Rattle.fc_docs.specs.View.{role_view}
use Rattle.fc_docs.proofs.MembersGiven.{nothing_given, one_left, one_more, one_silent, none_left}
use Rattle.fc_docs.proofs.Refused.{refused}
use Rattle.fc_docs.proofs.WholeDocument.{bad_member, bad_values, without_id, with_id, is_document}
use Rattle.fc_docs.proofs.read.read_members.Goals as goal

pub loop-key-init : goal.loop-key-init
loop-key-init c =
    let gives = c.into_iter-key-iterator.ensures.into_iter_gives in
    rw (c.in_ok-given.ensures.items, gives.0)
    (nothing_given (role_view c.args.role) c.args.schema.now (members_view c.args.members.entries) c.fields-fields.result c.fields-fields.ensures.count (keys_ascend c.args.members.entries gives.5))

pub returns-in_err-field-clause-answer : goal.returns-in_err-field-clause-answer
returns-in_err-field-clause-answer c =
    let so_far = one_left _ _ _ _ _ _ _ _ c.loop-key.invariant c.in-Some.ensures.steps in
    let p = err_from_is_err_and c.from_residual-in_err-field.result c.from_residual-in_err-field.ensures.1 in
    rw (p.1, p.2) (refused c.in_err-field.field-0.0 _ _ (λ e bad. bad_member _ _ _ _ _ _ _ e so_far.read (rw (← c.as_str.ensures.value) bad)) c.in_err-field.ensures.answer)

pub returns-in_err-values-clause-answer : goal.returns-in_err-values-clause-answer
returns-in_err-values-clause-answer c =
    let so_far = one_left _ _ _ _ _ _ _ _ c.loop-key.invariant c.in-Some.ensures.steps in
    let given : field_given (role_view c.args.role) c.args.schema.now (string_bytes c.in-Some.key) (view c.in-Some.json) ≡ Ok (Some c.in-Some-2.field.0) = rw (← c.as_str.ensures.value) (rw c.in-Some-2.is at c.in_ok-field.ensures.answer) in
    let p = err_from_is_err_and c.from_residual-in_err-values.result c.from_residual-in_err-values.ensures.1 in
    rw (p.1, p.2) (refused c.in_err-values.field-0.0 _ _ (λ e bad. bad_values _ _ _ _ _ _ _ _ _ e so_far.read given c.field_type.ensures bad) c.in_err-values.ensures.answer)

pub loop-key-preserved : goal.loop-key-preserved
loop-key-preserved c =
    let so_far = one_left _ _ _ _ _ _ _ _ c.loop-key.invariant c.in-Some.ensures.steps in
    let given : field_given (role_view c.args.role) c.args.schema.now (string_bytes c.in-Some.key) (view c.in-Some.json) ≡ Ok (Some c.in-Some-2.field.0) = rw (← c.as_str.ensures.value) (rw c.in-Some-2.is at c.in_ok-field.ensures.answer) in
    rw c.in_ok-give.ensures (one_more _ _ _ _ _ _ _ _ _ _ _ so_far c.fields-fields.ensures.valid.list given c.field_type.ensures c.in_ok-values.ensures.answer c.in_ok-values.ensures.valid)

pub loop-key-preserved-in_default : goal.loop-key-preserved-in_default
loop-key-preserved-in_default c =
    let so_far = one_left _ _ _ _ _ _ _ _ c.loop-key.invariant c.in-Some.ensures.steps in
    let given : field_given (role_view c.args.role) c.args.schema.now (string_bytes c.in-Some.key) (view c.in-Some.json) ≡ Ok None = rw (← c.as_str.ensures.value) (rw c.in_default.is at c.in_ok-field.ensures.answer) in
    one_silent _ _ _ _ _ _ _ _ so_far c.fields-fields.ensures.valid.list given

pub document_given-requires : goal.document_given-requires
document_given-requires c = c.loop-key.invariant.below

pub returns-in-Some-3-clause-answer : goal.returns-in-Some-3-clause-answer
returns-in-Some-3-clause-answer c =
    let whole = none_left _ _ _ _ _ _ c.loop-key.invariant c.in-None.ensures.steps.0 in
    let is = rw c.in-Some-3.is at c.in_ok-document.ensures.document in
    let some = rw c.in-Some-3.is at c.in_ok-document.ensures.id in
    rw is (with_id _ _ _ _ whole (rw is at some))

pub returns-in-Some-3-clause-valid : goal.returns-in-Some-3-clause-valid
returns-in-Some-3-clause-valid c =
    let whole = none_left _ _ _ _ _ _ c.loop-key.invariant c.in-None.ensures.steps.0 in
    let is = rw c.in-Some-3.is at c.in_ok-document.ensures.document in
    let some = rw c.in-Some-3.is at c.in_ok-document.ensures.id in
    rw is (is_document _ _ _ _ whole c.fields-fields.ensures.valid.list (rw is at some))

pub returns-in-None-2-clause-answer : goal.returns-in-None-2-clause-answer
returns-in-None-2-clause-answer c =
    without_id _ _ _ _ (none_left _ _ _ _ _ _ c.loop-key.invariant c.in-None.ensures.steps.0) (rw c.in-None-2.is at c.in_ok-document.ensures.none)
