use Rattle.std.proofs.Common.{◌∙◌, List, sym}
use Rattle.fc_spec.specs.documents.Val.{Text}
use Rattle.fc_column.specs.Terms.{has_from_to, ordinals_in}
use Rattle.fc_range.proofs.Selected.{all_picked}
use Rattle.fc_date_range.proofs.selecting.select_in_span.Goals as goal

pub returns-else-have_fewer-clause-set : goal.returns-else-have_fewer-clause-set
returns-else-have_fewer-clause-set c =
    let docs = c.args.docs.now in
    let column = c.args.column.now in
    let size = c.pick.ensures.kept ∙ c.requires.same_length ∙ sym c.requires.length in
    all_picked (λ (texts : List Text). has_from_to c.args.span.from c.args.span.past (ordinals_in column texts)) docs c.positions_between-found.result.now c.pick.new.into column c.requires.length
    c.positions_between-found.ensures.positions (record { size = size; each = c.pick.ensures.set })
