use Rattle.std.proofs.Common.{ap, ◌∙◌, arith}
use Rattle.fc_request.specs.NodeView.{nodes_view}
use Rattle.fc_refine.specs.AskView.{ask_view}
use Rattle.fc_levels.specs.Facets.{facet_count, nested_view}
use Rattle.fc_phase.proofs.CountedTops.{count_all, count_more, count_none}
use Rattle.fc_phase.proofs.progress.first_jobs.Goals as goal

pub loop-number-init : goal.loop-number-init
loop-number-init c = λ V whole root. count_none c.args.request.now V (ask_view c.args.ask.now)

pub loop-number-preserved : goal.loop-number-preserved
loop-number-preserved c = λ V whole root.
    let node = c.asked_node-node.result.now in
    let facets = c.facet_count.ensures ∙ ap (λ ns. facet_count (nodes_view ns)) c.deref.ensures.value in
    count_more
    c.args.request.now
    V
    (ask_view c.args.ask.now)
    c.loop-number.number
    c.loop-number.jobs
    c.in_ok-jobs.jobs
    c.facet_count.result
    (nested_view node)
    whole
    root
    (omega arith)
    c.asked_node-node.ensures.facet
    facets
    (omega (arith, c.in_ok-here.ensures, c.in_ok-jobs.ensures))
    (c.loop-number.invariant V whole root)

pub returns : goal.returns
returns c = λ V whole root. count_all c.args.request.now V (ask_view c.args.ask.now) c.loop-number.number c.loop-number.jobs (omega arith) (c.loop-number.invariant V whole root)
