use Rattle.fc_refine.specs.AskView.{ask_view}
use Rattle.fc_units.proofs.Following.{facet_begins, whole_ends}
use Rattle.fc_units.proofs.going.after_job.Goals as goal

pub returns-in-Job : goal.returns-in-Job
returns-in-Job c =
    facet_begins c.args.request.now (ask_view c.args.ask.now) c.args.roots c.args.buckets c.args.levels c.in_ok-job-in-Job.job c.args.next c.in-Job.node c.in-Job.opened c.in-Job.is c.in_ok-job-in-Job.ensures.node c.in_ok-job-in-Job.ensures.domain c.in_ok-job-in-Job.ensures.tally

pub returns : goal.returns
returns c =
    whole_ends c.args.request.now (ask_view c.args.ask.now) c.args.roots.items c.args.buckets.items c.append.new.self.items c.args.levels.items c.args.next c.in-Whole.node c.in-Whole.domain c.in-Whole.is c.in_ok-append-in-Whole.ensures.items c.next_top.result c.next_top.ensures
