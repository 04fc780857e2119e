use Rattle.std.proofs.Common.{◌∙◌, sym, ap}
use Rattle.std.specs.Arc.{arc_value}
use Rattle.fc_refine.specs.AskView.{ask_view}
use Rattle.fc_units.specs.Asked as asked
use Rattle.fc_units.proofs.AskedNodes.{copied_key, key_is, within_more}
use Rattle.fc_units.proofs.asked.asked_key.Goals as goal

pub want_at-requires : goal.want_at-requires
want_at-requires c = within_more c.args.ask.now c.in-More.wants c.args.number c.in-More.is c.requires

pub returns-in-More : goal.returns-in-More
returns-in-More c =
    let within = within_more c.args.ask.now c.in-More.wants c.args.number c.in-More.is c.requires in
    copied_key c.copy.result c.want_at.result.now.key (asked.asked_key (ask_view c.args.ask.now) c.args.number)
    (sym (key_is (arc_value c.in-More.wants).items c.args.number c.want_at.result.now within c.want_at.ensures) ∙ sym (ap (λ a. asked.asked_key (ask_view a) c.args.number) c.in-More.is)) c.copy.ensures
