use Rattle.fc_store.proofs.KeptRule.{pins_kept}
use Rattle.fc_store.proofs.reader.take.Goals as goal

pub enter_as-requires : goal.enter_as-requires
enter_as-requires c s = pins_kept _ _ s
