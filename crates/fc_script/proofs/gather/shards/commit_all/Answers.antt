use Rattle.std.proofs.Common.{◌≡◌, ◌+◌, suc, map, set, sym, ◌∙◌, ap, arith}
use Rattle.std.proofs.lemmas.List.{length-map}
use Rattle.fc_script.specs.ShardView.{shard_view}
use Rattle.fc_script.proofs.ShardSteps.{committed_from, committed_from-next, committed_from-end}
use Rattle.fc_script.proofs.gather.shards.commit_all.Goals as goal

pub loop-shard-preserved : goal.loop-shard-preserved
loop-shard-preserved c =
    let shards = c.loop-shard.shards in let i = c.loop-shard.shard-index in
    let one : i + 1 ≡ suc i = omega arith in
    ap (λ k. committed_from k (map shard_view (set shards i c.commit.new.self))) one
    ∙ committed_from-next shard_view shards i c.shard-item.result c.commit.new.self (omega arith) c.in_ok-commit.ensures
    ∙ c.loop-shard.invariant

pub returns-clause-shards : goal.returns-clause-shards
returns-clause-shards c = sym (committed_from-end c.loop-shard.shard-index (map shard_view c.loop-shard.shards) (let long = length-map c.loop-shard.shards shard_view in omega arith)) ∙ c.loop-shard.invariant
