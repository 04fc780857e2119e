use Rattle.std.proofs.Common.{length}
use Rattle.fc_refine.specs.AskView.{ask_view}
use Rattle.fc_units.proofs.Following.{countable_node, facet_goes, listed_keys_of}
use Rattle.fc_units.proofs.going.facet_done.Goals as goal

pub listed-requires-clause-keys : goal.listed-requires-clause-keys
listed-requires-clause-keys c = listed_keys_of c.requires.stands.0 c.requires.stands.1 c.args.request.now (ask_view c.args.ask.now) (length c.args.buckets.items) c.args.levels.items c.args.job c.requires.stands.2

pub returns : goal.returns
returns c =
    facet_goes c.args.request.now (ask_view c.args.ask.now) c.args.roots.items c.args.buckets.items c.args.levels.items c.job_ended.new.levels.items c.args.job c.in_ok-list.list.items c.in_ok-next.next
    (record { ascends = c.in_ok-list.ensures.tally; listed = c.in_ok-list.ensures.listed; keys = c.in_ok-list.ensures.keys }) (record { goes = c.in_ok-next.ensures.goes; kept = c.in_ok-next.ensures.kept; next_is = c.in_ok-next.ensures.next }) c.after_job.result c.after_job.ensures

pub listed-requires-clause-countable : goal.listed-requires-clause-countable
listed-requires-clause-countable c = countable_node c.requires.stands.0 c.args.job.node.now c.requires.stands.2.is_job.node
