use Rattle.std.proofs.Common.{arith, ◌<◌, length}
use Rattle.fc_units.specs.declared.leasts.LeastBuilding.TheVariants.{Root}
use Rattle.fc_units.proofs.LeastFollowing.{root_past}
use Rattle.fc_units.proofs.LeastUnits.{goes_further}
use Rattle.fc_units.proofs.leasts.root_followed.Goals as goal

pub returns-then-job-segments : goal.returns-then-job-segments
returns-then-job-segments c = λ s cut request ns done count more further st.
    let within : c.args.job.at < length cut = omega (arith, count, c.if-job-segments.true) in
    goes_further s cut request ns (Root c.args.job) done (record { can = st.can; job = st.is_job }) within further

pub returns : goal.returns
returns c = root_past c.args.segments c.args.job c.if-job-segments.false c.root_done.result c.root_done.ensures
