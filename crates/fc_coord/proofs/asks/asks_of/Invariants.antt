use Rattle.std.proofs.Common.{◌≡◌, ◌++◌, map}
use Rattle.fc_coord.specs.State as state
use Rattle.fc_coord.specs.View.{all_wants_view, asks_view}
use Rattle.fc_coord.proofs.asks.asks_of.Given as goal

abbrev pub invariant-loop-list : goal.invariant-loop-list
invariant-loop-list l = asks_view l.asks.items ++ map state.ask_for (all_wants_view l.list-iterator.rest.items) ≡ map state.ask_for (all_wants_view l.fn.wants.items)
