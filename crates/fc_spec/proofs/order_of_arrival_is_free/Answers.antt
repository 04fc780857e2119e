use Rattle.fc_spec.proofs.messages.HeldOrder.{held_is_enough, held_joins, order_is_free, rounds_order_is_free}
use Rattle.fc_spec.proofs.order_of_arrival_is_free.Goals as goal

pub returns-clause-held : goal.returns-clause-held
returns-clause-held c = held_is_enough

pub returns-clause-joins : goal.returns-clause-joins
returns-clause-joins c = held_joins

pub returns-clause-messages : goal.returns-clause-messages
returns-clause-messages c = order_is_free

pub returns-clause-rounds : goal.returns-clause-rounds
returns-clause-rounds c = rounds_order_is_free
