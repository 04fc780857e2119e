use Rattle.fc_store.proofs.KeptRule.{admits, forks, takes_over_kept}
use Rattle.fc_store.proofs.writer.ShardWriter.seat.Goals as goal

pub reader-requires : goal.reader-requires
reader-requires c = admits

pub tell-requires : goal.tell-requires
tell-requires c = forks _ _

pub learn-requires-clause-rule : goal.learn-requires-clause-rule
learn-requires-clause-rule c = takes_over_kept _ _ _ _
