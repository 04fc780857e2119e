use Rattle.std.proofs.Common.{rules}
use Rattle.std.specs.Arc.{arc_value}
use Rattle.fc_store.proofs.Published.{first_keeps, leads_first}
use Rattle.fc_store.proofs.writer.bind.Goals as goal

pub publish_as-writer-requires : goal.publish_as-writer-requires
publish_as-writer-requires g c next now = first_keeps arc_value _ _ c.args.writer.desk.shown.value next _ c.requires.none now

pub returns-clause-led : goal.returns-clause-led
returns-clause-led g c =
    let did = c.publish_as-writer.ensures in
    let leads = leads_first arc_value _ _ _ _ _ _ _ c.requires.charted c.requires.none did.values did.rule in
    search (rules, leads)

pub returns-clause-same : goal.returns-clause-same
returns-clause-same g c =
    let did = c.publish_as-writer.ensures in
    let leads = leads_first arc_value _ _ _ _ _ _ _ c.requires.charted c.requires.none did.values did.rule in
    search (rules, leads)
