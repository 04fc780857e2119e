use Rattle.std.proofs.Common.{rules}
use Rattle.std.specs.Arc.{arc_value}
use Rattle.fc_store.proofs.Published.{publishing_keeps, leads_on}
use Rattle.fc_store.proofs.writer.publish.Goals as goal

pub publish_as-writer-requires : goal.publish_as-writer-requires
publish_as-writer-requires g c next now = publishing_keeps arc_value _ _ c.args.writer.desk.shown.value next _ c.requires.led.next c.requires.some now

pub returns-clause-led : goal.returns-clause-led
returns-clause-led g c = let did = c.publish_as-writer.ensures in (leads_on arc_value _ _ _ _ _ _ _ c.requires.led c.requires.some did.values did.rule).0

pub returns-clause-charter : goal.returns-clause-charter
returns-clause-charter g c = let did = c.publish_as-writer.ensures in (leads_on arc_value _ _ _ _ _ _ _ c.requires.led c.requires.some did.values did.rule).1

pub returns-clause-schema : goal.returns-clause-schema
returns-clause-schema g c = let did = c.publish_as-writer.ensures in (leads_on arc_value _ _ _ _ _ _ _ c.requires.led c.requires.some did.values did.rule).2

pub returns-clause-number : goal.returns-clause-number
returns-clause-number g c =
    let did = c.publish_as-writer.ensures in
    let leads = (leads_on arc_value _ _ _ _ _ _ _ c.requires.led c.requires.some did.values did.rule).3 in
    search (rules, leads)
