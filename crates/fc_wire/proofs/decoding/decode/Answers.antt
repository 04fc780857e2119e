use Rattle.std.proofs.Common.{arith}
use Rattle.fc_wire.proofs.Decoded.{is_spelled, spells_none}
use Rattle.fc_wire.proofs.decoding.decode.Goals as goal

pub returns-clause-message : goal.returns-clause-message
returns-clause-message c = is_spelled c.args.bytes.now c.message_of.result (λ i. omega (arith, c.type_inv.bytes i)) c.message_of.ensures

pub returns-clause-fault : goal.returns-clause-fault
returns-clause-fault c = spells_none c.args.bytes.now c.message_of.result c.message_of.ensures
