use Rattle.std.proofs.Common.{◌-◌}
use Rattle.fc_spec.specs.documents.Totals.{document_total}
use Rattle.fc_domain.proofs.BlockLoops.{AreGatheredTo}
use Rattle.fc_domain.proofs.blocks.gather.Given as goal

abbrev pub invariant-loop-at : goal.invariant-loop-at
invariant-loop-at l = AreGatheredTo l.segment.blocks l.docs l.into l.from

abbrev pub decreases-loop-at : goal.decreases-loop-at
decreases-loop-at l = document_total l.segment.blocks - l.from
