use Rattle.std.proofs.Common.{◌≡◌, drop}
use Rattle.std.specs.Prelude.{is_some}
use Rattle.std.specs.List.{list_any}
use Rattle.fc_exact.specs.View.{asks_view}
use Rattle.fc_exact.proofs.asks.are_awaited.Given as goal

abbrev pub invariant-loop-ask : goal.invariant-loop-ask
invariant-loop-ask l = list_any is_some (asks_view l.asks) ≡ list_any is_some (asks_view (drop l.ask-index l.asks))
