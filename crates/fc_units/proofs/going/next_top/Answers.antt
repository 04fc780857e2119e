use Rattle.std.proofs.Common.{rules, arith, ◌≡◌, length}
use Rattle.fc_refine.specs.AskView.{ask_view}
use Rattle.fc_units.proofs.Ending.{begins_none}
use Rattle.fc_units.proofs.Following.{begins_next}
use Rattle.fc_units.proofs.going.next_top.Goals as goal

pub returns-then-number-asked_count : goal.returns-then-number-asked_count
returns-then-number-asked_count c = λ s segments can based front fits.
    let count : c.len-number.result ≡ length c.args.buckets.items = search (rules, c.len-number.ensures) in
    begins_none s segments c.args.request.now (ask_view c.args.ask.now) c.args.buckets front (omega (arith, count, c.asked_count.ensures, c.if-number-asked_count.true))

pub returns : goal.returns
returns c =
    let count : c.len-number.result ≡ length c.args.buckets.items = search (rules, c.len-number.ensures) in
    begins_next c.args.request.now (ask_view c.args.ask.now) c.args.roots c.args.buckets c.new-levels.result c.in_ok-job.job c.len-number.result c.args.domain.items c.kept_domain-domain.result.items count c.in_ok-job.ensures.begun c.in_ok-job.ensures.at
    c.new-levels.ensures.items c.kept_domain-domain.ensures
