use Rattle.fc_round.proofs.hearing.message_of.Goals as goal

pub unreachable-requires : goal.unreachable-requires
unreachable-requires c = (rw c.in-Err-Fault.field-0-is at c.in-Err-Fault.ensures.fault) tt c.requires.0 c.requires.1
