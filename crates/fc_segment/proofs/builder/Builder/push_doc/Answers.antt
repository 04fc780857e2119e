use Rattle.std.proofs.Common.{map}
use Rattle.std.proofs.lemmas.Result.{on_ok_weaker}
use Rattle.fc_base.specs.View.{val_view}
use Rattle.fc_segment.proofs.Rows.{texts_pushed, longs_pushed}
use Rattle.fc_segment.proofs.builder.Builder.push_doc.Goals as goal

pub returns-in-Text-clause-values : goal.returns-in-Text-clause-values
returns-in-Text-clause-values c =
    let values = map val_view c.args.values.now in
    let kind = rw c.in-Text.is at c.requires.of_kind in
    rw c.in-Text.is (on_ok_weaker c.push_doc.result (texts_pushed _ _ values kind) c.push_doc.ensures)

pub returns-in-Long-clause-values : goal.returns-in-Long-clause-values
returns-in-Long-clause-values c =
    let values = map val_view c.args.values.now in
    let kind = rw c.in-Long.is at c.requires.of_kind in
    rw c.in-Long.is (on_ok_weaker c.push_doc-in-Long.result (longs_pushed _ _ values kind) c.push_doc-in-Long.ensures)
