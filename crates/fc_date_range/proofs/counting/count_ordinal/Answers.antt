use Rattle.std.proofs.Common.{◌≤◌, ◌&&◌, map, arith, rules}
use Rattle.std.specs.Prelude.{nat_le, nat_lt}
use Rattle.fc_partial.specs.View.{stat_value_view}
use Rattle.fc_count.proofs.CountedSteps.{counted_same}
use Rattle.fc_date_range.specs.GapSpans.{is_held}
use Rattle.fc_date_range.proofs.Reached.{held_between, held_if, reaches}
use Rattle.fc_date_range.proofs.counting.count_ordinal.Goals as goal

pub count_from-requires-clause-fits : goal.count_from-requires-clause-fits
count_from-requires-clause-fits c = λ i from there begun.
    let least : c.args.reached ≤ c.max-start.result = search rules in
    let first : c.ended.result ≤ c.max-start.result = search rules in
    let left = c.ended.ensures.left i (omega arith) there in
    c.requires.fits i (omega arith) (held_if c.args.spans.now c.args.ord i begun left)

pub returns-clause-counted : goal.returns-clause-counted
returns-clause-counted c =
    let spans = c.args.spans.now in
    let ord = c.args.ord in
    let old = c.args.reached in
    let ended = c.ended.result in
    let start = c.max-start.result in
    let new = c.count_from.result in
    let least : old ≤ start = search rules in
    let first : ended ≤ start = search rules in
    counted_same (λ i. nat_le start i && nat_lt i new) (λ i. nat_le old i && is_held spans ord i) (map stat_value_view c.args.values.now) c.args.cells.now c.count_from.new.cells
    (λ i here. held_between spans ord ended old start new least first (λ k a b. grind arith) c.count_from.ensures.within c.ended.ensures.ended c.ended.ensures.left c.count_from.ensures.begun c.count_from.ensures.behind i
    (let all = c.requires.all in omega arith)) c.count_from.ensures.counted

pub returns-clause-reached : goal.returns-clause-reached
returns-clause-reached c =
    let spans = c.args.spans.now in
    let ord = c.args.ord in
    let old = c.args.reached in
    let ended = c.ended.result in
    let start = c.max-start.result in
    let new = c.count_from.result in
    let least : old ≤ start = search rules in
    let first : ended ≤ start = search rules in
    reaches spans ord ended old start new least first (λ k a b. grind arith) c.count_from.ensures.within c.ended.ensures.ended c.ended.ensures.left c.count_from.ensures.begun c.count_from.ensures.behind c.count_from.ensures.rises
