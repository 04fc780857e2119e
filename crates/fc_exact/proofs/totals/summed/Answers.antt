use Rattle.std.proofs.Common.{◌∙◌, ◌+◌, map, ap, sym, arith}
use Rattle.std.specs.Prelude.{unwrap_or}
use Rattle.fc_exact.specs.ToldFacets.{count_on}
use Rattle.fc_exact.specs.ToldView.{count_view}
use Rattle.fc_exact.proofs.TotalLists.{sum_more}
use Rattle.fc_exact.proofs.totals.summed.Goals as goal

pub loop-shard-preserved : goal.loop-shard-preserved
loop-shard-preserved c =
    let bound = c.loop-shard.invariant.bound in
    let one = c.from-sum.ensures ∙ c.unwrap_or-count.ensures ∙ ap (λ o. unwrap_or o 0) c.count_on.ensures in
    record {
      together = (λ j. c.loop-shard.invariant.together j + one j) ∙ sym (sum_more (λ i. unwrap_or (count_on i (map count_view c.args.counts.now)) 0) c.loop-shard.shard);
      bound = omega (arith, bound, c.from-sum.ensures, c.unwrap_or-count.type_inv);
    }
