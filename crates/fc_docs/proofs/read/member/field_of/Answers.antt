use Rattle.std.proofs.Common.{◌≡◌, Some, None, false, true, sym, ◌∙◌, rules}
use Rattle.std.proofs.lemmas.Map.Text.{is_eq-slice_cmp}
use Rattle.std.proofs.lemmas.Result.{err_from_is_err_and}
use Rattle.serde_json.specs.View.{view}
use Rattle.fc_spec.specs.documents.Val.{same_text}
use Rattle.fc_spec.specs.documents.Schema.{field_named}
use Rattle.fc_spec.specs.documents.BlockReading.{children_key}
use Rattle.fc_docs.specs.declared.fault.DocFault.TheVariants.{UnknownField}
use Rattle.fc_docs.specs.View.{role_view}
use Rattle.fc_docs.proofs.MemberFields.{ok_or_none, is_passed_over, passed_over, unknown, known}
use Rattle.fc_docs.proofs.read.member.field_of.Goals as goal

pub returns-then-is_passed_over-clause-answer : goal.returns-then-is_passed_over-clause-answer
returns-then-is_passed_over-clause-answer c =
    let other : same_text c.args.key.now children_key ≡ false = rw is_eq-slice_cmp (search rules) in
    let over : is_passed_over c.args.key.now ≡ true = rw (← c.as_bytes.ensures.value) (sym c.is_passed_over.ensures ∙ c.if-is_passed_over.true) in
    passed_over (role_view c.args.role) c.args.schema.now c.args.key.now (view c.args.json.now) other over

pub returns-in_err-field-clause-answer : goal.returns-in_err-field-clause-answer
returns-in_err-field-clause-answer c =
    let other : same_text c.args.key.now children_key ≡ false = rw is_eq-slice_cmp (search rules) in
    let kept : is_passed_over c.args.key.now ≡ false = rw (← c.as_bytes.ensures.value) (sym c.is_passed_over.ensures ∙ c.if-is_passed_over.false) in
    let none : field_named c.args.schema.now c.args.key.now ≡ None = rw (← c.as_bytes-2.ensures.value) (sym (rw c.in_err-field.ensures.ok_part at c.find.ensures.found)) in
    let is = unknown (role_view c.args.role) c.args.schema.now c.args.key.now (view c.args.json.now) other kept none in
    let p = err_from_is_err_and c.from_residual.result c.from_residual.ensures.1 in
    let fault = ok_or_none c.in_err-field.field-0.0 UnknownField c.find.result c.in_err-field.ensures.value c.in_err-field.ensures.ok_part in
    rw (p.1, p.2, fault) is

pub returns-clause-answer : goal.returns-clause-answer
returns-clause-answer c =
    let other : same_text c.args.key.now children_key ≡ false = rw is_eq-slice_cmp (search rules) in
    let kept : is_passed_over c.args.key.now ≡ false = rw (← c.as_bytes.ensures.value) (sym c.is_passed_over.ensures ∙ c.if-is_passed_over.false) in
    let named : field_named c.args.schema.now c.args.key.now ≡ Some c.in_ok-field.field.0 = rw (← c.as_bytes-2.ensures.value) (sym (rw c.in_ok-field.ensures.ok_part at c.find.ensures.found)) in
    known (role_view c.args.role) c.args.schema.now c.args.key.now (view c.args.json.now) c.in_ok-field.field.0 other kept named
