use Rattle.std.proofs.Common.{◌++◌, ◌∷◌, [], length, map, sym, ap, ap₂, ◌∙◌, arith}
use Rattle.std.proofs.lemmas.List.{length-map}
use Rattle.fc_segment.specs.Building.{builds_texts, padded, values_built}
use Rattle.fc_segment.proofs.WalkedFields.{waits_of}
use Rattle.fc_segment.proofs.WalkedDocuments.{documents_pushed, length-documents}
use Rattle.fc_segment.proofs.columns.Columns.push.Goals as goal

pub overflow_add-result : goal.overflow_add-result
overflow_add-result c =
    let inside = c.self.inside in
    let size = length-documents (map (padded inside.len) (map values_built inside.builders.items)) inside.len in
    record { fits = omega (arith, size, ap (λ w. length w.documents) c.self.view_is, c.requires.few) }

pub invariant_of-result : goal.invariant_of-result
invariant_of-result c =
    let inside = c.self.inside in
    let size = length-documents (map (padded inside.len) (map values_built inside.builders.items)) inside.len in
    record {
      few = omega (arith, size, ap (λ w. length w.documents) c.self.view_is, c.requires.few);
      behind = c.in_ok-push_fields.ensures.behind;
    }

pub returns : goal.returns
returns c =
    let inside = c.self.inside in
    let old = inside.builders.items in
    let new = c.push_fields.new.builders.items in
    let kinds = c.in_ok-push_fields.ensures.kinds in
    let size = length-map old values_built in
    let same = length-map new values_built ∙ sym (length-map new builds_texts) ∙ ap length kinds ∙ length-map old builds_texts ∙ sym size in
    let fields = c.requires.fits.lists ∙ sym (ap (λ w. length w.texts) c.self.view_is) ∙ length-map old builds_texts ∙ sym size in
    let walked = documents_pushed (map values_built old) (map values_built new) inside.len c.args.document.now same fields (waits_of old inside.len c.self.invariant.behind)
    (λ n within. c.in_ok-push_fields.ensures.values n (omega (arith, size))) in
    ap₂ (λ texts documents. record { texts = texts; documents = documents })
    (kinds ∙ ap (λ w. w.texts) c.self.view_is)
    (walked ∙ ap (λ w. w.documents ++ c.args.document.now ∷ []) c.self.view_is)
