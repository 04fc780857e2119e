use Rattle.std.proofs.Common.{◌≡◌, ◌≤◌, ◌∙◌, map, set, OnOk, sym, ap, subst, rules}
use Rattle.std.specs.Prelude.{nat_abs, sum_by, ◌≢◌}
use Rattle.std.proofs.lemmas.List.{map-set}
use Rattle.fc_spec.specs.documents.Sets.{places_on}
use Rattle.fc_spec.specs.documents.World.{shard_places}
use Rattle.fc_spec.specs.requests.Request.{missing}
use Rattle.fc_spec.specs.requests.Statistics.{longs_of, value_over}
use Rattle.fc_spec.specs.scripts.ScriptTotals.{total_limit}
use Rattle.fc_base.specs.StatisticView.{stat_kind_view, stat_view}
use Rattle.fc_partial.specs.OneDocument.{statistic_of}
use Rattle.fc_partial.specs.StatsView.{stats_view}
use Rattle.fc_partial.specs.View.{stat_value_view}
use Rattle.fc_kind.specs.PlaceAt.{place_at}
use Rattle.fc_kind.proofs.PickedPlaces.{all_below, all_fit, places_picked}
use Rattle.fc_kind.proofs.PickedValues.{by_values}
use Rattle.fc_kind.proofs.PlaceColumns.{segment_fits}
use Rattle.fc_kind.proofs.SetValues.{longs_in_all, longs_in_set}
use Rattle.fc_kind.proofs.set_statistics.put_statistic.Goals as goal

pub add_by_mask-requires-clause-small : goal.add_by_mask-requires-clause-small
add_by_mask-requires-clause-small c =
    let blocks = c.args.segment.now.blocks in
    let field = c.args.stat.field.0 in
    let small : sum_by nat_abs (longs_of field (shard_places 0 0 0 blocks)) ≤ total_limit = (segment_fits blocks c.requires.limits).sums field in
    subst (λ zs. sum_by nat_abs zs ≤ total_limit) (longs_in_all blocks field c.args.docs.now c.in-Some.column.now c.in-Some.ensures.values) small

pub value_at_all-requires-clause-there : goal.value_at_all-requires-clause-there
value_at_all-requires-clause-there c =
    rw (c.deref.ensures.value, c.in_ok-positions-in-None.ensures) (all_below c.args.segment.now.blocks c.args.docs.now c.requires.length)

pub value_at_all-requires-clause-fit : goal.value_at_all-requires-clause-fit
value_at_all-requires-clause-fit c =
    rw (c.deref.ensures.value, c.in_ok-positions-in-None.ensures) (all_fit c.args.segment.now.blocks c.args.docs.now c.requires.length c.requires.limits)

pub returns-in-Some : goal.returns-in-Some
returns-in-Some c =
    let blocks = c.args.segment.now.blocks in
    let field = c.args.stat.field.0 in
    let of = stat_kind_view c.args.stat.of in
    let there : of ≢ missing = search rules in
    let is = ap (statistic_of of) (sym (longs_in_set blocks field c.args.docs.now c.in-Some.column.now c.in-Some.ensures.values))
    ∙ sym (by_values of there field (places_on 0 blocks c.args.docs.now)) in
    subst
    (λ v. OnOk c.add_by_mask.result (stats_view c.add_by_mask.new.over
    ≡ record { count = c.args.over.now.count; values = set (map stat_value_view c.args.over.now.values.items) c.args.at v }))
    is c.add_by_mask.ensures

pub returns-in_ok-positions-in-None : goal.returns-in_ok-positions-in-None
returns-in_ok-positions-in-None c =
    let blocks = c.args.segment.now.blocks in
    let items = c.args.over.now.values.items in
    let places = ap (map (place_at blocks)) (c.deref.ensures.value ∙ c.in_ok-positions-in-None.ensures) ∙ places_picked blocks c.args.docs.now c.requires.length in
    ap (λ l. record { count = c.args.over.now.count; values = l })
    (map-set stat_value_view items c.args.at c.value_at_all.result
    ∙ ap (set (map stat_value_view items) c.args.at) (c.value_at_all.ensures ∙ ap (value_over (stat_view c.args.stat)) places))
