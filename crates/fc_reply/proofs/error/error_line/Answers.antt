use Rattle.fc_facet.specs.FaultView.{fault_view}
use Rattle.fc_reply.proofs.ErrorJson.{has_float-error_data}
use Rattle.fc_reply.proofs.error.error_line.Goals as goal

pub text_line-requires : goal.text_line-requires
text_line-requires c = rw c.in_ok-json.ensures (has_float-error_data (fault_view c.args.fault.now.fault) c.args.fault.now.at.items c.text.result.now)
