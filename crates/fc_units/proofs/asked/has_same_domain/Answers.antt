use Rattle.std.proofs.Common.{◌≡◌, ◌+◌, ◌-◌, ◌∙◌, sym, ap, subst, arith, get_or}
use Rattle.std.specs.Arc.{arc_value}
use Rattle.fc_refine.specs.AskView.{ask_view}
use Rattle.fc_units.specs.Asked.{HasSameDomain}
use Rattle.fc_units.proofs.AskedNodes.{same_at, within_more}
use Rattle.fc_units.proofs.asked.has_same_domain.Goals as goal

pub want_at-before-requires : goal.want_at-before-requires
want_at-before-requires c = omega (arith, within_more c.args.ask.now c.in-More.wants c.args.number c.in-More.is c.requires)

pub want_at-here-requires : goal.want_at-here-requires
want_at-here-requires c = within_more c.args.ask.now c.in-More.wants c.args.number c.in-More.is c.requires

pub returns-else-number-eq0 : goal.returns-else-number-eq0
returns-else-number-eq0 c same =
    let within = within_more c.args.ask.now c.in-More.wants c.args.number c.in-More.is c.requires in
    let n = c.args.number in
    let up : n - 1 + 1 ≡ n = omega (arith, c.if-number-eq0.false) in
    let both = c.same_domain.ensures same in
    subst (λ a. HasSameDomain (ask_view a) n) (sym c.in-More.is)
    (same_at (arc_value c.in-More.wants).items (n - 1) c.want_at-before.result.now c.want_at-here.result.now (omega (arith, within, up)) c.want_at-before.ensures
    (c.want_at-here.ensures ∙ ap (λ i. get_or (arc_value c.in-More.wants).items i c.want_at-here.result.now) (sym up)) both.0 both.1 n (omega (arith, up)))
