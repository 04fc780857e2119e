use Rattle.std.proofs.Common.{◌≡◌, ◌-◌, map}
use Rattle.fc_spec.specs.messages.Lengths.{entries_up_to}
use Rattle.fc_hooks.specs.ProbeTable.{lengths_in}
use Rattle.fc_hooks.specs.SentLists.{sent_view}
use Rattle.fc_hooks.proofs.round_probe.RoundProbe.sent.Given as goal

-- those of the rounds so far
abbrev pub invariant-loop-round : goal.invariant-loop-round
invariant-loop-round l = map sent_view l.sent.items ≡ entries_up_to (l.round - 1) 64 (lengths_in l.self)
