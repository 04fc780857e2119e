-- What the core stands for.
use Rattle.fc_exact.specs.State.{State}
use Rattle.fc_exact.specs.View.{state_of}
use Rattle.fc_exact.specs.declared.exact_core.ExactCore.{ExactCore}

abbrev pub state_view : ExactCore → State
state_view c = state_of c.request.now c.told.items c.asks.items c.round c.standing
