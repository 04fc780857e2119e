use Rattle.std.proofs.Common.{map, arith}
use Rattle.fc_hooks.specs.ProbeTable.{lengths_in}
use Rattle.fc_hooks.specs.SentLists.{sent_view}
use Rattle.fc_hooks.proofs.Listed.{rounds_more, rounds_whole}
use Rattle.fc_hooks.proofs.round_probe.RoundProbe.sent.Goals as goal

pub loop-round-preserved : goal.loop-round-preserved
loop-round-preserved c =
    rounds_more (lengths_in c.args.self.now) 64 c.loop-round.round (map sent_view c.loop-round.sent.items) (map sent_view c.push_round.new.sent.items) c.loop-round.auto.round c.loop-round.invariant c.in_ok-push_round.ensures

pub returns : goal.returns
returns c =
    rounds_whole (lengths_in c.args.self.now) 64 c.loop-round.round 16 (map sent_view c.loop-round.sent.items) (omega (arith, c.loop-round-test.false, c.loop-round.auto.round-end)) c.loop-round.invariant
