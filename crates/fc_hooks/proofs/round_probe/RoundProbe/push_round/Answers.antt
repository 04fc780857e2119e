use Rattle.std.proofs.Common.{refl, arith}
use Rattle.fc_hooks.specs.ProbeTable.{lengths_in}
use Rattle.fc_hooks.proofs.Listed.{sent_more, sent_none, shards_whole}
use Rattle.fc_hooks.proofs.round_probe.RoundProbe.push_round.Goals as goal
use Rattle.fc_hooks.proofs.round_probe.RoundProbe.push_round.Goals.{in-Some+in_ok-push-in-Some, in-None}

pub loop-shard-preserved : goal.loop-shard-preserved
loop-shard-preserved c =
    let m = lengths_in c.args.self.now in
    let now = c.loop-shard.sent.items in
    elim c.match-length.branch [
      | in-Some+in_ok-push-in-Some w ↦ rw w.sent-is (rw w.in_ok-push-in-Some.ensures.items (sent_more m c.args.round c.loop-shard.shard c.args.sent.now.items now c.loop-shard.invariant _ refl refl w.in-Some.ensures))
      | in-None w ↦ rw w.sent-is (sent_none m c.args.round c.loop-shard.shard c.args.sent.now.items now c.loop-shard.invariant w.in-None.ensures)
    ]

pub returns : goal.returns
returns c =
    shards_whole (lengths_in c.args.self.now) c.args.round c.loop-shard.shard 64 c.args.sent.now.items c.loop-shard.sent.items (omega (arith, c.loop-shard-test.false, c.loop-shard.auto.shard-end)) c.loop-shard.invariant
