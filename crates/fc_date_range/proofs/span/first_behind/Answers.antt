use Rattle.std.proofs.Common.{◌∙◌, ap}
use Rattle.fc_column.specs.Terms.{terms_below, terms_up_to}
use Rattle.fc_date_range.proofs.FirstTerms.{held_behind, left_behind}
use Rattle.fc_date_range.proofs.span.first_behind.Goals as goal

pub returns-then-with_high : goal.returns-then-with_high
returns-then-with_high c =
    held_behind c.args.column.now c.args.high.now c.args.with_high c.first_past.result c.if-with_high.true (c.first_past.ensures ∙ ap (terms_up_to c.args.column.now) c.bytes.ensures.value)

pub returns-else-with_high : goal.returns-else-with_high
returns-else-with_high c =
    left_behind c.args.column.now c.args.high.now c.args.with_high c.first_from.result c.if-with_high.false (c.first_from.ensures ∙ ap (terms_below c.args.column.now) c.bytes-else-with_high.ensures.value)
