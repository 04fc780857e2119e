use Rattle.fc_partial.specs.declared.bucket.PartialBucket.TheViews.{roll-PartialNode}
use Rattle.fc_request.specs.RequestView.{request_view}
use Rattle.fc_levels.proofs.Resuming.{list_is}
use Rattle.fc_units.proofs.Following.{countable_node}
use Rattle.fc_units.proofs.LeastFollowing.{list_goes, list_keys}
use Rattle.fc_units.proofs.leasts.list_done.Goals as goal

pub listed_from-requires-clause-facet : goal.listed_from-requires-clause-facet
listed_from-requires-clause-facet c = c.requires.4.node.facet

pub listed_from-requires-clause-countable : goal.listed_from-requires-clause-countable
listed_from-requires-clause-countable c = countable_node c.requires.0 c.args.lists.job.node.now c.requires.4.node

pub listed_from-requires-clause-stats : goal.listed_from-requires-clause-stats
listed_from-requires-clause-stats c = c.requires.4.counted.tally.stats

pub listed_from-requires-clause-keys : goal.listed_from-requires-clause-keys
listed_from-requires-clause-keys c = list_keys c.requires.0 c.requires.1 (request_view c.requires.2) c.args.lists.job c.requires.4

pub returns : goal.returns
returns c =
    list_goes c.args.lists c.args.least (roll-PartialNode (record { buckets = c.in_ok-buckets.buckets })) c.push.new.self.items c.in_ok-push.ensures.items
    (record { buckets = c.in_ok-buckets.buckets.items; view = list_is c.in_ok-buckets.buckets; ascends = c.in_ok-buckets.ensures.tally; listed = c.in_ok-buckets.ensures.listed }) c.next_list.result c.next_list.ensures
