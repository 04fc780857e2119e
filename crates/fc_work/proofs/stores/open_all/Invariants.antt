use Rattle.std.proofs.Common.{◌≡◌, ◌++◌, map}
use Rattle.std.specs.Prelude.{All}
use Rattle.std.specs.List.{filter}
use Rattle.fc_work.specs.Opened.{CanOpen, commits_some, indexes_in, pinning_in, place_for, place_in, sessions_in}
use Rattle.fc_work.proofs.stores.open_all.Given as goal

abbrev pub invariant-loop-opening : goal.invariant-loop-opening
invariant-loop-opening g l = record {
  open_ : All CanOpen l.opening-iterator.rest.items;
  all : l.yielded ++ l.opening-iterator.rest.items ≡ l.fn.openings.items;
  sessions : sessions_in l.workers.items ≡ sessions_in l.initial.workers.items;
  indexes : map place_in (indexes_in l.workers.items) ≡ map place_in (indexes_in l.initial.workers.items) ++ map place_for (filter commits_some l.yielded);
  seats : All (λ seat. seat.items ≡ map pinning_in l.yielded) l.seats;
}
