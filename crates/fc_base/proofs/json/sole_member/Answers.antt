use Rattle.std.proofs.Common.{Some, sym, ◌∙◌, ap}
use Rattle.serde_json.specs.View.{view}
use Rattle.fc_base.proofs.JsonObjects.{sole_member-entries, is_sole, not_sole}
use Rattle.fc_base.proofs.json.sole_member.Goals as goal

pub returns-then-len-ne1 : goal.returns-then-len-ne1
returns-then-len-ne1 c =
    let es = c.in_ok-members.members.now.entries in
    sym (sole_member-entries (view c.args.value.now) es c.in_ok-members.ensures ∙ not_sole es (λ one. c.if-len-ne1.true (c.len.ensures.len ∙ one)))

pub returns : goal.returns
returns c =
    let es = c.in_ok-members.members.now.entries in
    ap (λ name. Some (name, view c.in_ok-name.inside.now)) c.as_str.ensures.value
    ∙ sym (sole_member-entries (view c.args.value.now) es c.in_ok-members.ensures ∙ is_sole es _ (sym c.len.ensures.len ∙ c.if-len-ne1.false) c.in_ok-name.ensures.first)
