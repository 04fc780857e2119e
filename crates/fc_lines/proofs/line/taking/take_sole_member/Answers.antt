use Rattle.std.proofs.Common.{◌≡◌, length, arith, sym, ◌∙◌}
use Rattle.serde_json.proofs.Views.{view-Object}
use Rattle.fc_lines.proofs.SoleMembers.{none_alone, taken}
use Rattle.fc_lines.proofs.line.taking.take_sole_member.Goals as goal

pub returns-then-len-ne1 : goal.returns-then-len-ne1
returns-then-len-ne1 c = rw (c.in-Object.is, view-Object) (none_alone c.in-Object.members.entries (λ one. c.if-len-ne1.true (c.len.ensures.len ∙ one)))

pub returns : goal.returns
returns c =
    let es = c.in-Object.members.entries in
    let one : length es ≡ 1 = sym c.len.ensures.len ∙ c.if-len-ne1.false in
    rw (c.in-Object.is, view-Object) (taken es c.pop_first.new.self.entries c.pop_first.result one (c.pop_first.ensures.variant.1 (omega arith)) c.pop_first.ensures.removal)
