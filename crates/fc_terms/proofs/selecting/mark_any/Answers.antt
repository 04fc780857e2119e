use Rattle.std.proofs.Common.{◌∙◌, List, false, map, not, get_or, sym, ap}
use Rattle.fc_column.proofs.TermPositions.{some_map}
use Rattle.fc_segment.specs.Columns.{column_values}
use Rattle.fc_spec.specs.documents.Val.{Val, text, long}
use Rattle.fc_spec.specs.words.Lists.{is_empty}
use Rattle.fc_terms.proofs.selecting.mark_any.Goals as goal

pub returns-in-Text : goal.returns-in-Text
returns-in-Text c = λ at.
    c.any.ensures at
    ∙ ap (λ l. get_or l at false) (sym (some_map text c.in-Text.column) ∙ ap (λ column. map (λ (values : List Val). not (is_empty values)) (column_values column)) (sym c.in-Text.is))

pub returns-in-Long : goal.returns-in-Long
returns-in-Long c = λ at.
    c.any-in-Long.ensures at
    ∙ ap (λ l. get_or l at false) (sym (some_map long c.in-Long.column) ∙ ap (λ column. map (λ (values : List Val). not (is_empty values)) (column_values column)) (sym c.in-Long.is))
