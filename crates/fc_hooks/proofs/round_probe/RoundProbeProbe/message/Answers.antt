use Rattle.std.proofs.Common.{◌≡◌, ◌+◌, ◌-◌, ◌*◌, ◌<◌, suc, Some, length, rules, ◌∙◌, ap, arith}
use Rattle.std.specs.Prelude.{slice_set}
use Rattle.fc_spec.specs.messages.Lengths.{put}
use Rattle.fc_hooks.specs.ProbeTable.{lengths_of}
use Rattle.fc_hooks.proofs.Tables.{put_in_table}
use Rattle.fc_hooks.proofs.round_probe.RoundProbeProbe.message.Goals as goal

pub returns : goal.returns
returns c =
    let T = c.args.self.now.table in
    let n = c.args.round - 1 in
    let long : length T ≡ 1024 = search rules in
    let there : 64 * n + c.args.shard < length T = omega (arith, c.place_of.ensures.place, c.place_of.ensures.there, long) in
    let round : suc n ≡ c.args.round = omega (arith, c.requires.first) in
    ap Some (
    ap (λ k. lengths_of (slice_set T k (Some c.args.length))) c.place_of.ensures.place ∙ put_in_table T n c.args.shard c.args.length c.requires.shards there
    ∙ ap (λ k. put (record { round = k; shard = c.args.shard; length = c.args.length }) (lengths_of T)) round
    )
