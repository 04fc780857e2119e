use Rattle.std.proofs.Common.{ap, ◌∙◌}
use Rattle.fc_reply.specs.Slots.{slot_members}
use Rattle.fc_reply.proofs.SlotMembers.{slot_members-insert_entry}
use Rattle.fc_reply.proofs.slots.put.Goals as goal

pub returns-in-Ok : goal.returns-in-Ok
returns-in-Ok c = λ b. ap (slot_members b) c.in-Ok.ensures.entries ∙ slot_members-insert_entry b c.args.slots.now.entries c.args.name c.args.slot
