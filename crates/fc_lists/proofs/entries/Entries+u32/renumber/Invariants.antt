use Rattle.std.proofs.Common.{ℕ, ◌<◌, length, get_or}
use Rattle.fc_lists.specs.declared.entries.Entry.{Entry}
use Rattle.fc_lists.proofs.ItemsAt.{Renumbered}
use Rattle.fc_lists.proofs.entries.Entries+u32.renumber.Given as goal

abbrev pub invariant-loop-entry : goal.invariant-loop-entry
invariant-loop-entry l = record {
  within : (k : ℕ) (d : Entry ℕ) → k < length l.initial.entry-items → (get_or l.initial.entry-items k d).item < length l.numbers;
  renumbered : Renumbered (λ n. get_or l.numbers n 0) l.initial.entry-items l.entry-items l.entry-index;
}
