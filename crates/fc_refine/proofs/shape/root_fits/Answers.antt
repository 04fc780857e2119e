use Rattle.fc_request.specs.NodeView.{nodes_view}
use Rattle.fc_refine.proofs.Shapes.{no_root}
use Rattle.fc_refine.proofs.shape.root_fits.Goals as goal

pub returns-then-buckets-ne1 : goal.returns-then-buckets-ne1
returns-then-buckets-ne1 c = no_root (nodes_view c.args.nodes.now) c.args.buckets.now c.if-buckets-ne1.true
