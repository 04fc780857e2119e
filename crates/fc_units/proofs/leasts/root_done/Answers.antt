use Rattle.std.proofs.Common.{ap}
use Rattle.fc_request.specs.NodeView.{nodes_view}
use Rattle.fc_units.proofs.LeastFollowing.{root_goes}
use Rattle.fc_units.proofs.leasts.root_done.Goals as goal

pub returns : goal.returns
returns c = root_goes c.args.job c.new.result.items (nodes_view c.deref.result.now) c.new.ensures.items (ap nodes_view c.deref.ensures.value) c.next_list.result c.next_list.ensures
