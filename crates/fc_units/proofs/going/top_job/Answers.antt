use Rattle.std.proofs.Common.{◌∙◌, [], map, ap, refl}
use Rattle.fc_spec.specs.requests.Statistics.{stats_over}
use Rattle.fc_base.specs.StatisticView.{stat_view}
use Rattle.fc_refine.specs.AskView.{ask_view}
use Rattle.fc_jobs.proofs.WalkedSets.{by_segment}
use Rattle.fc_units.specs.declared.jobs.TopJob.{TopJob}
use Rattle.fc_units.proofs.Begun.{top_begun}
use Rattle.fc_units.proofs.going.top_job.Goals as goal

pub returns-clause-begun : goal.returns-clause-begun
returns-clause-begun c = λ s segments roots can fits.
    let job : TopJob = record { node = c.asked_node-node.result; key = c.in_ok-key.key; domain = c.args.domain; at = 0; stats = c.in_ok-stats.stats; over = c.in_ok-over.over } in
    top_begun by_segment s segments c.args.request.now (ask_view c.args.ask.now) c.args.number roots job can c.requires.number c.asked_node-node.ensures.facet (c.asked_node-node.ensures.valid s can.root can.valid)
    (c.asked_node-node.ensures.key can.root) c.in_ok-key.ensures c.in_ok-stats.ensures (c.in_ok-over.ensures ∙ ap (λ l. stats_over (map stat_view l) []) c.deref.ensures.value) refl fits
