use Rattle.std.proofs.Common.{◌≡◌, ◌+◌, drop}
use Rattle.std.specs.List.{prefix_len}
use Rattle.fc_spec.specs.documents.SchemaReading.{is_digit}
use Rattle.fc_dates.proofs.gap.digits_in_front.Given as goal

abbrev pub invariant-loop-byte : goal.invariant-loop-byte
invariant-loop-byte l = (l.count ≡ l.byte-index) × (prefix_len is_digit l.text ≡ l.count + prefix_len is_digit (drop l.byte-index l.text))
