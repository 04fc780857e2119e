use Rattle.std.proofs.Common.{length, map, sym, ap, ap₂, ◌∙◌}
use Rattle.std.specs.List.{range_with_len}
use Rattle.std.proofs.lemmas.List.{length-map}
use Rattle.std.proofs.lemmas.Simd.{map-map}
use Rattle.fc_spec.specs.documents.Columns.{column_of}
use Rattle.fc_segment.specs.Building.{builds_texts, padded, values_built}
use Rattle.fc_segment.proofs.WalkedFields.{waits_of}
use Rattle.fc_segment.proofs.WalkedDocuments.{columns_are}
use Rattle.fc_segment.proofs.columns.Columns.finish.Goals as goal

pub returns-clause-values : goal.returns-clause-values
returns-clause-values c =
    let inside = c.self.inside in
    let builders = inside.builders.items in
    let rows = map values_built builders in
    let size = length-map builders values_built ∙ sym (length-map builders builds_texts) ∙ ap (λ w. length w.texts) c.self.view_is in
    c.in_ok-columns.ensures.values ∙ sym (map-map (padded inside.len) values_built builders)
    ∙ columns_are rows inside.len (waits_of builders inside.len c.self.invariant.behind)
    ∙ ap₂ (λ documents count. map (λ field. column_of field documents) (range_with_len 0 count)) (ap (λ w. w.documents) c.self.view_is) size

pub returns-clause-kinds : goal.returns-clause-kinds
returns-clause-kinds c = c.in_ok-columns.ensures.kinds ∙ ap (λ w. w.texts) c.self.view_is
