use Rattle.std.proofs.Common.{◌∙◌, ap}
use Rattle.fc_column.specs.Terms.{terms_below, terms_up_to}
use Rattle.fc_date_range.proofs.FirstTerms.{held_from, left_from}
use Rattle.fc_date_range.proofs.span.first_from.Goals as goal

pub returns-then-with_low : goal.returns-then-with_low
returns-then-with_low c =
    held_from c.args.column.now c.args.low.now c.args.with_low c.first_from.result c.if-with_low.true (c.first_from.ensures ∙ ap (terms_below c.args.column.now) c.bytes.ensures.value)

pub returns-else-with_low : goal.returns-else-with_low
returns-else-with_low c =
    left_from c.args.column.now c.args.low.now c.args.with_low c.first_past.result c.if-with_low.false (c.first_past.ensures ∙ ap (terms_up_to c.args.column.now) c.bytes-else-with_low.ensures.value)
