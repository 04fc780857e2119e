use Rattle.std.proofs.Common.{◌∙◌, ap, sym}
use Rattle.std.specs.Prelude.{option_map}
use Rattle.fc_partial.specs.StatsView.{stats_view}
use Rattle.fc_told.specs.Trees.{stats_told}
use Rattle.fc_told.specs.declared.tree.ToldBucket.{out-ToldBucket}
use Rattle.fc_told.proofs.Levels.{bucket_is, teller_found}
use Rattle.fc_told.proofs.tree.ToldBucket.told_by.Goals as goal

pub returns : goal.returns
returns c =
    let i = c.args.shard in
    let b = c.args.self.now in
    ap (option_map (λ t. stats_view t.stats)) c.in_ok-teller.ensures.value ∙ sym (ap (stats_told i) (bucket_is b) ∙ teller_found i (out-ToldBucket b).tellers.entries)

pub returns-in_err-teller : goal.returns-in_err-teller
returns-in_err-teller c =
    let i = c.args.shard in
    let b = c.args.self.now in
    ap (option_map (λ stats. stats_view stats.now)) c.from_residual.ensures
    ∙ ap (option_map (λ t. stats_view t.stats)) c.in_err-teller.ensures.value ∙ sym (ap (stats_told i) (bucket_is b) ∙ teller_found i (out-ToldBucket b).tellers.entries)
