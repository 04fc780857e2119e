use Rattle.std.proofs.Common.{◌≡◌, false, true, sym, ◌∙◌, ap, map, string_bytes}
use Rattle.std.specs.List.{list_any}
use Rattle.serde_json.specs.View.{members_view}
use Rattle.fc_spec.specs.documents.Val.{same_text}
use Rattle.fc_spec.specs.scripts.JsonObjects.{only_names}
use Rattle.fc_base.proofs.JsonObjects.{among, not_among}
use Rattle.fc_base.proofs.json.has_only.Goals as goal

pub returns-then-not-is_among : goal.returns-then-not-is_among
returns-then-not-is_among c =
    let text = c.as_str.ensures.value in
    let test : false ≡ list_any (λ other. same_text (string_bytes c.in-Some.name.now) other.now) c.args.names.now = sym c.if-not-is_among.true ∙ c.is_among.ensures ∙ ap (λ t. list_any (λ other. same_text t other.now) c.args.names.now) text in
    sym (c.loop-name.invariant ∙ ap (λ es. only_names (map (λ name. name.now) c.args.names.now) (members_view es)) c.in-Some.ensures.steps ∙ not_among c.args.names.now (c.in-Some.name.now, c.in-Some.field-0-1.now) c.next.new.self test)

pub loop-name-preserved : goal.loop-name-preserved
loop-name-preserved c =
    let text = c.as_str.ensures.value in
    let test : true ≡ list_any (λ other. same_text (string_bytes c.in-Some.name.now) other.now) c.args.names.now = sym c.if-not-is_among.false ∙ c.is_among.ensures ∙ ap (λ t. list_any (λ other. same_text t other.now) c.args.names.now) text in
    c.loop-name.invariant ∙ ap (λ es. only_names (map (λ name. name.now) c.args.names.now) (members_view es)) c.in-Some.ensures.steps ∙ among c.args.names.now (c.in-Some.name.now, c.in-Some.field-0-1.now) c.next.new.self test
