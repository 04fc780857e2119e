use Rattle.std.proofs.Common.{◌∙◌, ◌++◌, map, ap, sym}
use Rattle.std.proofs.lemmas.List.{map-append}
use Rattle.std.specs.List.{items_where_true}
use Rattle.fc_spec.specs.documents.Val.{long}
use Rattle.fc_spec.proofs.words.WhereTrue.{items_where_true-map}
use Rattle.fc_segment.specs.Columns.{column_values}
use Rattle.fc_segment.proofs.merged_columns.with_longs.Goals as goal

pub returns : goal.returns
returns c =
    ap (map (map long)) c.in_ok-merged-in-Long.ensures ∙ map-append (map long) c.args.merger (items_where_true c.args.live.now c.in-Long.longs)
    ∙ ap (λ l. map (map long) c.args.merger ++ l) (sym (items_where_true-map (map long) c.args.live.now c.in-Long.longs)
    ∙ ap (λ o. items_where_true c.args.live.now (column_values o)) (sym c.in-Long.is))
