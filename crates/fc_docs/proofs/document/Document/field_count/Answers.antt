use Rattle.std.proofs.Common.{length, sym, ◌∙◌, ap}
use Rattle.fc_spec.specs.documents.Document.{Document}
use Rattle.fc_docs.specs.Kept.{parts}
use Rattle.fc_docs.proofs.FieldLists.{length-document_of}
use Rattle.fc_docs.proofs.document.Document.field_count.Goals as goal

pub returns : goal.returns
returns c =
    sym (length-document_of c.self.inside.fields (parts c.self.inside.counts c.self.inside.values.items))
    ∙ ap (λ (d : Document). length d) c.self.view_is
