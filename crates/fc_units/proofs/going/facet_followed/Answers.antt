use Rattle.std.proofs.Common.{rules, arith, ◌≡◌, ◌<◌, ◌≤◌, length}
use Rattle.fc_refine.specs.AskView.{ask_view}
use Rattle.fc_units.proofs.Following.{facet_further, facet_past}
use Rattle.fc_units.proofs.going.facet_followed.Goals as goal

pub returns-then-len-segments : goal.returns-then-len-segments
returns-then-len-segments c = λ s cut done count more further st based front under.
    let there : c.len.result ≡ length c.args.job.domain.items = search (rules, c.len.ensures) in
    let within : length c.args.job.domain.items < length cut = omega (arith, count, there, c.if-len-segments.true) in
    facet_further s cut c.args.request.now (ask_view c.args.ask.now) c.args.roots c.args.buckets c.args.levels c.args.job done within further st based front under

pub returns : goal.returns
returns c =
    let there : c.len.result ≡ length c.args.job.domain.items = search (rules, c.len.ensures) in
    let past : c.args.segments ≤ length c.args.job.domain.items = omega (arith, there, c.if-len-segments.false) in
    facet_past c.args.request.now (ask_view c.args.ask.now) c.args.segments c.args.roots.items c.args.buckets.items c.args.levels.items c.args.job past c.facet_done.result c.facet_done.ensures
