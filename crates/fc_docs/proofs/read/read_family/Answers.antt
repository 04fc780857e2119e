use Rattle.std.proofs.Common.{◌≡◌, Ok, unwrap_or}
use Rattle.std.proofs.lemmas.Result.{err_from_is_err_and}
use Rattle.serde_json.specs.View.{view, members_view}
use Rattle.serde_json.specs.declared.value.Value.TheVariants.{Null}
use Rattle.fc_spec.specs.documents.BlockReading.{as_parent, child_documents, document_of_members}
use Rattle.fc_docs.proofs.ChildrenAside.{taken, without_children, bad_parent, bad_children, whole_block}
use Rattle.fc_docs.proofs.Refused.{refused}
use Rattle.fc_docs.proofs.read.read_family.Goals as goal

pub returns-in_err-parent-clause-answer : goal.returns-in_err-parent-clause-answer
returns-in_err-parent-clause-answer c =
    let es = c.args.members.entries in
    let left : c.remove.new.self.entries ≡ without_children es = c.remove.ensures.entries in
    let p = err_from_is_err_and c.from_residual.result c.from_residual.ensures.1 in
    rw (p.1, p.2)
    (refused c.in_err-parent.field-0.0 (document_of_members as_parent c.args.schema.now (members_view (without_children es))) _
    (λ e bad. bad_parent c.args.schema.now es (view (unwrap_or c.remove.result Null)) e c.in_err-parent.ensures.schema.list (taken es c.remove.result c.remove.ensures.value) bad)
    (rw left at c.in_err-parent.ensures.answer))

pub returns-in_err-children-clause-answer : goal.returns-in_err-children-clause-answer
returns-in_err-children-clause-answer c =
    let es = c.args.members.entries in
    let left : c.remove.new.self.entries ≡ without_children es = c.remove.ensures.entries in
    let parent : document_of_members as_parent c.args.schema.now (members_view (without_children es)) ≡ Ok c.in_ok-parent.parent = rw left at c.in_ok-parent.ensures.answer in
    let p = err_from_is_err_and c.from_residual-in_err-children.result c.from_residual-in_err-children.ensures.1 in
    rw (p.1, p.2)
    (refused c.in_err-children.field-0.0 (child_documents c.args.schema.now (view (unwrap_or c.remove.result Null))) _
    (λ e bad. bad_children c.args.schema.now es (view (unwrap_or c.remove.result Null)) c.in_ok-parent.parent e c.in_ok-parent.ensures.schema.list (taken es c.remove.result c.remove.ensures.value) parent bad)
    (rw c.unwrap_or-children.ensures at c.in_err-children.ensures.answer))

pub returns-clause-answer : goal.returns-clause-answer
returns-clause-answer c =
    let es = c.args.members.entries in
    let left : c.remove.new.self.entries ≡ without_children es = c.remove.ensures.entries in
    let parent : document_of_members as_parent c.args.schema.now (members_view (without_children es)) ≡ Ok c.in_ok-parent.parent = rw left at c.in_ok-parent.ensures.answer in
    whole_block c.args.schema.now es (view (unwrap_or c.remove.result Null)) c.in_ok-parent.parent c.in_ok-children.children.items c.in_ok-parent.ensures.schema.list (taken es c.remove.result c.remove.ensures.value) parent
    (rw c.unwrap_or-children.ensures at c.in_ok-children.ensures.answer)
