use Rattle.std.proofs.Common.{◌*◌, ◌∙◌, ap, arith, refl}
use Rattle.fc_request.specs.RequestView.{request_view}
use Rattle.fc_levels.specs.Jobs.{units_each}
use Rattle.fc_units.specs.Leasts.{least_jobs}
use Rattle.fc_phase.proofs.LeastTurns.{begun}
use Rattle.fc_phase.proofs.least_progress.LeastProgress.begin.Goals as goal

pub invariant_of-result : goal.invariant_of-result
invariant_of-result c =
    let job = c.in_ok-job.ensures in
    begun
    c.requires.can.0
    _
    _
    c.in_ok-job.job
    c.new.result.items
    c.requires.can.1
    c.requires.bare
    c.new.ensures.items
    job.begun
    job.at
    refl
    refl
    (c.in-Some.ensures ∙ ap (λ n. units_each n * least_jobs (request_view c.args.request.now)) (c.len.ensures ∙ c.args.segments.ok.0))
    (omega arith)
    refl
    c.new-2.ensures
