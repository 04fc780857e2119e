use Rattle.std.proofs.Common.{◌≡◌, ◌≤◌, ◌+◌, drop, count_by}
use Rattle.fc_spec.specs.documents.Bits.{first_bits}
use Rattle.fc_lane.proofs.masked.masked_count.Given as goal

abbrev pub invariant-loop-word : goal.invariant-loop-word
invariant-loop-word l = record {
  count : l.count + count_by (λ here. here) (first_bits l.left (drop l.word-index l.mask)) ≡ count_by (λ here. here) (first_bits l.len l.mask);
  left : l.left ≤ l.len;
}
