use Rattle.std.proofs.Common.{◌*◌, ◌∙◌, ap, refl}
use Rattle.fc_levels.specs.Jobs.{units_each}
use Rattle.fc_phase.proofs.Turns.{begun}
use Rattle.fc_phase.proofs.progress.Progress.begin.Goals as goal

pub invariant_of-result : goal.invariant_of-result
invariant_of-result c =
    let job = c.in_ok-job.ensures in
    begun
    c.requires.can.0
    _
    _
    c.in_ok-job.job
    c.in-Some.jobs
    c.new.result.items
    c.requires.can.1
    c.requires.names
    c.new.ensures.items
    job.begun
    job.at
    c.new-2.ensures.items
    c.in_ok-buckets.ensures.items
    c.new-3.ensures.items
    refl
    refl
    c.in-Some.ensures
    (c.in-Some-checked_mul.ensures.1 ∙ ap (λ k. c.in-Some.jobs * k) (c.units_each.ensures ∙ ap units_each (c.len.ensures ∙ c.args.segments.ok.0)))
    refl
    c.new-4.ensures
