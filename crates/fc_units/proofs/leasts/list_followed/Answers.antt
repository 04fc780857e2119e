use Rattle.std.proofs.Common.{rules, arith, ◌≡◌, ◌<◌, drop, length, ap, ◌∙◌}
use Rattle.fc_spec.specs.messages.TopRounds.{first_number}
use Rattle.fc_units.specs.declared.leasts.LeastBuilding.TheVariants.{Facets}
use Rattle.fc_units.proofs.LeastFollowing.{list_past}
use Rattle.fc_units.proofs.LeastUnits.{goes_further}
use Rattle.fc_units.proofs.leasts.list_followed.Goals as goal

pub returns-then-lists-segments : goal.returns-then-lists-segments
returns-then-lists-segments c = λ s cut request done can count more further are.
    let within : c.args.lists.job.at < length cut = omega (arith, count, c.if-lists-segments.true) in
    goes_further s cut request c.args.least.now (Facets c.args.lists) done (record { can = can; job = are }) within further

pub returns : goal.returns
returns c =
    let there : c.len.result ≡ length c.args.lists.done.items = search (rules, c.len.ensures) in
    list_past c.args.segments c.args.least.now c.args.lists c.count_at-count.result c.if-lists-segments.false (c.count_at-count.ensures ∙ ap (λ n. first_number (drop n c.args.least.now)) there) c.list_done.result c.list_done.ensures
