use Rattle.std.proofs.Common.{◌-◌}
use Rattle.fc_spec.specs.documents.Totals.{document_total}
use Rattle.fc_domain.proofs.BlockLoops.{AreSpreadTo}
use Rattle.fc_domain.proofs.blocks.spread.Given as goal

abbrev pub invariant-loop-parent : goal.invariant-loop-parent
invariant-loop-parent l = AreSpreadTo l.segment.blocks l.fn.into l.into l.from

abbrev pub decreases-loop-parent : goal.decreases-loop-parent
decreases-loop-parent l = document_total l.segment.blocks - l.from
