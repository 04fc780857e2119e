use Rattle.fc_query.proofs.Fronting.{stripped}
use Rattle.fc_query.proofs.filter.past_front.Goals as goal

pub returns : goal.returns
returns c = stripped c.args.front.now c.args.text.now c.strip_prefix.result c.strip_prefix.ensures.cases
