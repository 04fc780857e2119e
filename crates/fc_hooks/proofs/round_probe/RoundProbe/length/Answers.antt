use Rattle.std.proofs.Common.{◌≡◌, ◌-◌, suc, None, get_or, ◌∙◌, ap, arith}
use Rattle.fc_hooks.specs.ProbeTable.{lengths_of}
use Rattle.fc_hooks.proofs.Tables.{got_in_table}
use Rattle.fc_hooks.proofs.round_probe.RoundProbe.length.Goals as goal

pub returns : goal.returns
returns c =
    let T = c.args.self.now.table in
    let round : suc (c.args.round - 1) ≡ c.args.round = omega (arith, c.requires.first) in
    ap (λ k. get_or T k None) c.place_of.ensures.place ∙ got_in_table T (c.args.round - 1) c.args.shard c.requires.shards ∙ ap (λ n. lengths_of T n c.args.shard) round
