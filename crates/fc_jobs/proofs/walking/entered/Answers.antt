use Rattle.fc_partial.specs.View.{key_view}
use Rattle.fc_request.specs.FacetNode.{kind_of, kind_view}
use Rattle.fc_jobs.proofs.KeptLengths.{selected_length}
use Rattle.fc_jobs.proofs.walking.entered.Goals as goal

pub returns-clause-length : goal.returns-clause-length
returns-clause-length g c =
    selected_length (kind_view (kind_of c.args.node.now)) (key_view c.args.key.now) c.args.segment.now.blocks c.in_ok-domain.domain c.selected.result c.in_ok-domain.ensures.length c.selected.ensures
