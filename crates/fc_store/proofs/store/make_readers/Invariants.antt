use Rattle.std.proofs.Common.{◌≡◌, All, length}
use Rattle.fc_store.specs.Ends.{Pinning}
use Rattle.fc_store.proofs.store.make_readers.Given as goal

abbrev pub invariant-loop : goal.invariant-loop
invariant-loop l = (l.writer ≡ l.initial.writer) × (length l.made.items ≡ l.counter)
    × All (λ (reader : Pinning). reader ≡ record { schema = l.initial.writer.schema; charter = l.initial.writer.charter; least = l.initial.writer.number }) l.made.items
