use Rattle.std.proofs.Common.{◌≡◌, ◌∙◌, [], length, map, IfOk, sym, ap, ap₂, subst}
use Rattle.std.proofs.lemmas.Bool.{eqb-true}
use Rattle.std.proofs.lemmas.List.{nil_from_length}
use Rattle.fc_base.specs.StatisticView.{stat_view}
use Rattle.fc_spec.specs.requests.Statistics.{stats_over}
use Rattle.fc_partial.specs.StatsView.{stats_view}
use Rattle.fc_partial.specs.View.{stat_value_view}
use Rattle.fc_kind.specs.PlaceAt.{place_at}
use Rattle.fc_kind.proofs.PickedPlaces.{all_below, all_fit, places_picked}
use Rattle.fc_kind.proofs.SetCounts.{stats_none}
use Rattle.fc_kind.proofs.set_statistics.set_stats.Goals as goal

pub returns-then-is_empty : goal.returns-then-is_empty
returns-then-is_empty c =
    let none : c.args.stats.now ≡ [] = nil_from_length c.args.stats.now (eqb-true (length c.args.stats.now) 0 (sym c.is_empty.ensures ∙ c.if-is_empty.true)) in
    ap₂ (λ n vs. record { count = n; values = vs }) (c.from.ensures ∙ c.count-count.ensures) (ap (map stat_value_view) c.new.ensures.items)
    ∙ stats_none c.args.segment.now.blocks c.args.docs.now (map stat_view c.args.stats.now) c.requires.length (ap (map stat_view) none)

pub stats_at-requires-clause-there : goal.stats_at-requires-clause-there
stats_at-requires-clause-there c =
    rw (c.deref.ensures.value, c.in_ok-positions.ensures) (all_below c.args.segment.now.blocks c.args.docs.now c.requires.length)

pub stats_at-requires-clause-fit : goal.stats_at-requires-clause-fit
stats_at-requires-clause-fit c =
    rw (c.deref.ensures.value, c.in_ok-positions.ensures) (all_fit c.args.segment.now.blocks c.args.docs.now c.requires.length c.requires.limits)

pub returns-then-count-len : goal.returns-then-count-len
returns-then-count-len c =
    let blocks = c.args.segment.now.blocks in
    let places = ap (map (place_at blocks)) (c.deref.ensures.value ∙ c.in_ok-positions.ensures) ∙ places_picked blocks c.args.docs.now c.requires.length in
    subst (λ X. IfOk c.stats_at.result (λ over. stats_view over ≡ stats_over (map stat_view c.args.stats.now) X)) places c.stats_at.ensures
