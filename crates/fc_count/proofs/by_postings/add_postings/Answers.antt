use Rattle.std.proofs.Common.{arith}
use Rattle.fc_count.proofs.HeldPositions.{all_positions}
use Rattle.fc_count.proofs.by_postings.add_postings.Goals as goal

pub add_whole-requires-clause-whole : goal.add_whole-requires-clause-whole
add_whole-requires-clause-whole g c = all_positions c.args.docs.now (omega arith)
