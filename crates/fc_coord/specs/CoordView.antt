-- What a coordinator stands for.
use Rattle.fc_coord.specs.State.{State}
use Rattle.fc_coord.specs.View.{state_of}
use Rattle.fc_coord.specs.declared.coord.Coord.{Coord}

abbrev pub state_view : Coord → State
state_view c = state_of c.request.now c.told c.asks.items c.round c.standing
