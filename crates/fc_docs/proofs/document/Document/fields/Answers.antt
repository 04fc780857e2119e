use Rattle.std.proofs.Common.{ap, ap₂, sym, ◌∙◌}
use Rattle.fc_spec.specs.documents.Document.{values_of}
use Rattle.fc_docs.specs.Fields.{values_at}
use Rattle.fc_docs.specs.Kept.{parts}
use Rattle.fc_docs.proofs.FieldLists.{values_of-document_of}
use Rattle.fc_docs.proofs.document.Document.fields.Goals as goal

pub returns-clause-values : goal.returns-clause-values
returns-clause-values c =
    let kept = parts c.self.inside.counts c.self.inside.values.items in
    λ n. ap (λ es. values_at es n) (c.over.ensures ∙ ap₂ parts c.left.ensures c.deref.ensures.value)
    ∙ sym (values_of-document_of c.self.inside.fields kept n c.self.invariant.are_values.ends)
    ∙ ap (λ d. values_of d n) c.self.view_is
