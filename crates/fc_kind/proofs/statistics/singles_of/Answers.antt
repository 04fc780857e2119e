use Rattle.std.proofs.Common.{◌≡◌, ◌∙◌, ℤ, List, [], ◌∷◌, map, sym, ap}
use Rattle.std.proofs.lemmas.Simd.{map-map}
use Rattle.std.proofs.lemmas.Option.{IfSome_then}
use Rattle.fc_spec.specs.documents.Columns.{column_of}
use Rattle.fc_spec.specs.documents.Totals.{documents_in}
use Rattle.fc_spec.specs.documents.Val.{long}
use Rattle.fc_kind.proofs.statistics.singles_of.Goals as goal

pub returns-in-Long : goal.returns-in-Long
returns-in-Long c =
    let column : List (List ℤ) = c.in-Long.column in
    let all : map (map long) column ≡ column_of c.args.field.0 (documents_in c.args.segment.now.blocks) = rw c.in-Long.is at c.column.ensures.values in
    IfSome_then c.singles.result c.singles.ensures.values
    (λ items one. sym all ∙ ap (map (map long)) one ∙ map-map (map long) (λ value. value ∷ []) items.now)
