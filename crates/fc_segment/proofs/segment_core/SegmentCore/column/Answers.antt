use Rattle.std.proofs.Common.{◌<◌, ◌∙◌, ap, sym, length, arith}
use Rattle.std.proofs.lemmas.List.{length-map}
use Rattle.fc_spec.specs.documents.Columns.{column_of}
use Rattle.fc_spec.specs.documents.Totals.{documents_in}
use Rattle.fc_segment.specs.Columns.{is_text_column}
use Rattle.fc_segment.specs.Columned.{Columned}
use Rattle.fc_segment.proofs.StoredBlocks.{column_of-stored}
use Rattle.fc_segment.proofs.segment_core.SegmentCore.column.Goals as goal

pub returns-clause-values : goal.returns-clause-values
returns-clause-values c =
    let s = c.self.inside in
    let within : c.args.field.0 < length s.columns.items = omega (arith, length-map s.columns.items is_text_column, ap (λ (t : Columned). length t.texts) c.self.view_is) in
    sym (column_of-stored s c.args.field.0 c.index.result.now c.self.invariant within c.index.ensures)
    ∙ ap (λ (t : Columned). column_of c.args.field.0 (documents_in t.blocks)) c.self.view_is
