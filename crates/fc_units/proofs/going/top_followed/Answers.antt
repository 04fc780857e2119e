use Rattle.std.proofs.Common.{arith, ◌<◌, length}
use Rattle.fc_refine.specs.AskView.{ask_view}
use Rattle.fc_units.proofs.Following.{top_further, top_past}
use Rattle.fc_units.proofs.going.top_followed.Goals as goal

pub returns-then-job-segments : goal.returns-then-job-segments
returns-then-job-segments c = λ s cut done count more further st front.
    let within : c.args.job.at < length cut = omega (arith, count, c.if-job-segments.true) in
    top_further s cut c.args.request.now (ask_view c.args.ask.now) c.args.roots c.args.buckets c.new-levels.result c.args.job done c.new-levels.ensures.items within further st front

pub returns : goal.returns
returns c = top_past c.args.request.now (ask_view c.args.ask.now) c.args.segments c.args.roots.items c.args.buckets.items c.args.job c.if-job-segments.false c.top_done.result c.top_done.ensures
