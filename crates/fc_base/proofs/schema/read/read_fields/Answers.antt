use Rattle.std.proofs.Common.{◌≡◌, [], ◌∷◌, ◌++◌, Some, None, false, map, string_bytes, sym, ◌∙◌, ap, append-nil, rules}
use Rattle.std.specs.Prelude.{codes}
use Rattle.std.proofs.lemmas.Map.Text.{is_eq-slice_cmp}
use Rattle.fc_spec.specs.documents.Val.{same_text}
use Rattle.std.proofs.lemmas.List.{map-append, length-map}
use Rattle.std.proofs.lemmas.Result.{err_from_is_err_and}
use Rattle.serde_json.specs.View.{view, members_view}
use Rattle.fc_spec.specs.documents.Schema.{Field}
use Rattle.fc_spec.specs.documents.SchemaReading.{field_of}
use Rattle.fc_base.specs.Answers.{or_fault}
use Rattle.fc_base.specs.View.{field_view, field_type_view}
use Rattle.fc_base.proofs.GatheredFields.{gathered, one_bad, one_more, all_bad, is_field_list}
use Rattle.fc_base.proofs.Members.{keys_ascend}
use Rattle.fc_base.proofs.schema.read.read_fields.Goals as goal

pub returns-in_err-kind-clause-answer : goal.returns-in_err-kind-clause-answer
returns-in_err-kind-clause-answer c =
    let p = err_from_is_err_and c.from_residual-in_err-kind.result c.from_residual-in_err-kind.ensures.1 in
    let rest = ap members_view c.in-Some.ensures.steps in
    let bad : None ≡ field_of (string_bytes c.in-Some.name.now) (view c.in-Some.json.now) = rw (← c.deref.ensures) (rw c.in_err-kind.ensures.ok_part at c.kind_of.ensures) in
    let none = c.loop-name.invariant ∙ ap (gathered (map field_view c.loop-name.fields.items)) rest ∙ one_bad (map field_view c.loop-name.fields.items) (string_bytes c.in-Some.name.now) (view c.in-Some.json.now) (members_view c.next.new.self) bad in
    rw (p.1, p.2) (ap or_fault (all_bad (members_view c.args.members.now.entries) none))

pub loop-name-preserved-in_ok-push-2 : goal.loop-name-preserved-in_ok-push-2
loop-name-preserved-in_ok-push-2 c =
    let rest = ap members_view c.in-Some.ensures.steps in
    let done = map field_view c.loop-name.fields.items in
    let field : Field = record { name = c.in_ok-name.name; kind = field_type_view c.in_ok-kind.kind } in
    let good : Some field ≡ field_of (string_bytes c.in-Some.name.now) (view c.in-Some.json.now) = rw (c.in_ok-name.ensures, c.deref-then-ne.ensures, ← c.deref.ensures) (rw c.in_ok-kind.ensures.ok_part at c.kind_of.ensures) in
    let other : same_text c.in_ok-name.name (codes "id") ≡ false = rw (is_eq-slice_cmp, c.in_ok-name.ensures, c.deref-then-ne.ensures) (search rules) in
    let pushed : map field_view c.push-then-ne.new.self.items ≡ done ++ field ∷ [] = ap (map field_view) c.in_ok-push-2.ensures.items ∙ map-append field_view c.loop-name.fields.items _ in
    c.loop-name.invariant ∙ ap (gathered done) rest
    ∙ one_more done (string_bytes c.in-Some.name.now) (view c.in-Some.json.now) (members_view c.next.new.self) field good other
    ∙ ap (λ fields. gathered fields (members_view c.next.new.self)) (sym pushed)

pub returns-clause-valid : goal.returns-clause-valid
returns-clause-valid c =
    let whole = c.loop-name.invariant ∙ ap (λ rest. gathered (map field_view c.loop-name.fields.items) (members_view rest)) c.in-None.ensures.steps.0 ∙ ap Some (append-nil _) in
    is_field_list (members_view c.args.members.now.entries) _ (keys_ascend c.args.members.now.entries c.into_iter-name-iterator.ensures.into_iter_gives.5) whole (rw length-map (search rules))
