use Rattle.std.proofs.Common.{List, false, map, not, get_or, sym, ap, ◌∙◌}
use Rattle.fc_spec.specs.documents.Val.{Text}
use Rattle.fc_spec.specs.words.Lists.{is_empty}
use Rattle.fc_column.specs.Dictionary.{term_at}
use Rattle.fc_column.proofs.TermPositions.{some_map}
use Rattle.fc_column.proofs.text.TextColumn.any.Goals as goal

pub returns : goal.returns
returns c = λ at.
    let column = c.self.inside in
    c.any.ensures at
    ∙ ap (λ l. get_or l at false) (sym (some_map (term_at column.terms.items) column.ordinals) ∙ ap (map (λ (texts : List Text). not (is_empty texts))) c.self.view_is)
