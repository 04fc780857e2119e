use Rattle.std.proofs.Common.{◌≡◌, ℕ, ◌+◌, Option, true, false, sym, ◌∙◌, ap, arith, is_some}
use Rattle.fc_hooks.specs.ProbeTable.{lengths_in}
use Rattle.fc_hooks.proofs.Tables.{count_more, count_at_end}
use Rattle.fc_hooks.proofs.round_probe.RoundProbe.messages.Goals as goal
use Rattle.fc_hooks.proofs.round_probe.RoundProbe.messages.Goals.{then-is_some, else-is_some}

pub loop-shard-preserved : goal.loop-shard-preserved
loop-shard-preserved c =
    let below = c.loop-shard.invariant.few in
    let f : ℕ → Option ℕ = lengths_in c.args.self.now c.args.round in
    let is_it : is_some (f c.loop-shard.shard) ≡ c.is_some.result = ap is_some (sym c.length.ensures) ∙ sym c.is_some.ensures in
    let add-zero_count : c.loop-shard.count + 0 ≡ c.loop-shard.count = omega arith in
    elim c.if-is_some.branch [
      | then-is_some w ↦ record { is = w.count-is ∙ count_more f c.loop-shard.shard c.loop-shard.count true c.loop-shard.invariant.is (is_it ∙ w.if-is_some.true); few = omega (arith, below) }
      | else-is_some w ↦ record { is = w.count-is ∙ sym add-zero_count ∙ count_more f c.loop-shard.shard c.loop-shard.count false c.loop-shard.invariant.is (is_it ∙ w.if-is_some.false); few = omega (arith, below) }
    ]

pub returns : goal.returns
returns c = count_at_end (lengths_in c.args.self.now c.args.round) c.loop-shard.shard c.loop-shard.count 64 c.loop-shard.invariant.is (omega (arith, c.loop-shard-test.false, c.loop-shard.auto.shard-end))
