use Rattle.std.proofs.Common.{sym, subst, ◌∙◌, ap, Err}
use Rattle.serde_json.specs.View.{view, members_view}
use Rattle.fc_base.specs.Answers.{Answers}
use Rattle.fc_request.specs.FaultView.{request_fault_view}
use Rattle.fc_request.specs.RequestView.{request_view}
use Rattle.fc_request.proofs.RequestParts.{of_object, of_no_object, valid}
use Rattle.fc_request.proofs.request.Request.read.Goals as goal

pub returns-in-Some-clause-answer : goal.returns-in-Some-clause-answer
returns-in-Some-clause-answer c =
    subst (λ defined. Answers request_view request_fault_view c.read_members.result defined)
    (sym (of_object c.args.schema.now (view c.args.json.now) (members_view c.in-Some.members.now.entries) (sym c.in-Some.ensures)))
    c.read_members.ensures.answer

pub returns-in-Some-clause-valid : goal.returns-in-Some-clause-valid
returns-in-Some-clause-valid c =
    valid c.read_members.result c.args.schema.now (view c.args.json.now)
    (subst (λ defined. Answers request_view request_fault_view c.read_members.result defined)
    (sym (of_object c.args.schema.now (view c.args.json.now) (members_view c.in-Some.members.now.entries) (sym c.in-Some.ensures)))
    c.read_members.ensures.answer)

pub returns-in-None-clause-answer : goal.returns-in-None-clause-answer
returns-in-None-clause-answer c =
    of_no_object c.args.schema.now (view c.args.json.now) (sym c.in-None.ensures) ∙ ap Err (sym c.own.ensures)
