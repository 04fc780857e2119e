use Rattle.std.proofs.Common.{◌≡◌, ◌+◌, ◌<◌, ◌∙◌, ◌++◌, ◌∷◌, [], ap, drop, length, map, subst, sym, arith}
use Rattle.std.proofs.lemmas.List.{length-append}
use Rattle.fc_run.specs.Progress.{CanCarryAll, all_carried, progress_of}
use Rattle.fc_run.proofs.scripts.NextShard.{carried_more, next_can}
use Rattle.fc_run.proofs.shards.later_shards.Goals as goal

pub carry-requires : goal.carry-requires
carry-requires c =
    let was = c.loop-shard.invariant in
    let i = length c.loop-shard.later.items in
    let first = c.in-Some.ensures.steps.0 in
    let long = ap length first in
    let below : i < length c.args.commits.now = (let count = was.count in omega (arith, count, long)) in
    let at : c.len-in-loop-shard.result ≡ i = c.len-in-loop-shard.ensures ∙ c.loop-shard.later.ok.0 in
    rw at (next_can c.loop-shard.shard-iterator.rest.items c.next.new.self.rest.items c.in-Some.shard c.args.commits.now i first below was.each).first

pub loop-shard-preserved : goal.loop-shard-preserved
loop-shard-preserved c =
    let was = c.loop-shard.invariant in
    let commits = c.args.commits.now in
    let i = length c.loop-shard.later.items in
    let first = c.in-Some.ensures.steps.0 in
    let long = ap length first in
    let below : i < length commits = (let count = was.count in omega (arith, count, long)) in
    let at : c.len-in-loop-shard.result ≡ i = c.len-in-loop-shard.ensures ∙ c.loop-shard.later.ok.0 in
    let pushed : c.push.new.self.items ≡ c.loop-shard.later.items ++ c.in_ok-carry.field-0 ∷ [] = c.in_ok-push.ensures.items in
    let more : length c.push.new.self.items ≡ i + 1 = ap length pushed ∙ length-append c.loop-shard.later.items (c.in_ok-carry.field-0 ∷ []) in
    let rest = c.next.new.self.rest.items in
    record {
      count = (let count = was.count in omega (arith, count, long, more));
      each = subst (λ n. CanCarryAll (map progress_of rest) (drop n commits)) (sym more) (next_can c.loop-shard.shard-iterator.rest.items rest c.in-Some.shard commits i first below was.each).others;
      made =
          subst (λ n. map progress_of c.push.new.self.items ++ all_carried (map progress_of rest) (drop n commits) ≡ all_carried (map progress_of c.args.shards.items) commits) (sym more)
          (carried_more c.loop-shard.shard-iterator.rest.items rest c.loop-shard.later.items c.push.new.self.items c.in-Some.shard c.in_ok-carry.field-0 commits i _ first below
          (rw (← at) c.in_ok-carry.ensures) pushed was.made);
    }
