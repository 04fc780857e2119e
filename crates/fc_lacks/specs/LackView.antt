-- What lacks stand for in the definitions.
use Rattle.fc_spec.specs.messages.Lacks as definition
use Rattle.fc_refine.specs.AskView.{want_view}
use Rattle.fc_lacks.specs.declared.lacks.Lack.{Lack}

abbrev pub lack_view : Lack → definition.Lack
lack_view l = record { shard = l.shard; want = want_view l.want }
