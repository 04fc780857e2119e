use Rattle.fc_refine.specs.AskView.{ask_view}
use Rattle.fc_units.proofs.Following.{top_goes}
use Rattle.fc_units.proofs.going.top_done.Goals as goal

pub returns : goal.returns
returns c =
    top_goes c.args.request.now (ask_view c.args.ask.now) c.args.roots.items c.args.buckets.items c.args.job c.new-levels.result.items c.top_ended.new.levels.items c.in_ok-next.next c.known_before-known.result c.new-levels.ensures.items
    (record { goes = c.in_ok-next.ensures.goes; kept = c.in_ok-next.ensures.kept; next_is = c.in_ok-next.ensures.next }) c.known_before-known.ensures c.after_job.result c.after_job.ensures
