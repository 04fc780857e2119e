use Rattle.std.proofs.Common.{◌≡◌, ℕ, ◌-◌, ◌≤◌, ◌&&◌, ◌||◌, nat_le, nat_lt}
use Rattle.fc_spec.specs.documents.Bits.{has_bit}
use Rattle.fc_docset.proofs.words.set_bits.Given as goal

abbrev pub invariant-loop-at : goal.invariant-loop-at
invariant-loop-at l =
    (l.from ≤ l.at) × (l.at ≤ l.to)
    × ((k : ℕ) → has_bit l.words k ≡ (has_bit l.initial.words k || (nat_le l.from k && nat_lt k l.at)))

abbrev pub decreases-loop-at : goal.decreases-loop-at
decreases-loop-at l = l.to - l.at
