use Rattle.fc_spec.proofs.documents.LiveSets.{changes_on_live, passing_of_on_live, passing_on_live}
use Rattle.fc_spec.proofs.sets_hold_on_live_blocks.Goals as goal

pub returns : goal.returns
returns c = record { passing = passing_on_live; of_sets = passing_of_on_live; changes = changes_on_live }
