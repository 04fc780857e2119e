use Rattle.std.proofs.lemmas.Result.{on_ok_weaker}
use Rattle.fc_spec.specs.documents.Val.{text, long}
use Rattle.fc_segment.proofs.Rows.{rows_skipped}
use Rattle.fc_segment.proofs.builder.Builder.skip.Goals as goal

pub returns-in-Text-clause-values : goal.returns-in-Text-clause-values
returns-in-Text-clause-values c = rw c.in-Text.is (on_ok_weaker c.skip.result (rows_skipped text _ _ c.args.count) c.skip.ensures)

pub returns-in-Long-clause-values : goal.returns-in-Long-clause-values
returns-in-Long-clause-values c = rw c.in-Long.is (on_ok_weaker c.skip-in-Long.result (rows_skipped long _ _ c.args.count) c.skip-in-Long.ensures)
