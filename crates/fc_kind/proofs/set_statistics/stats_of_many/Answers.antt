use Rattle.std.proofs.Common.{◌≡◌, ◌∙◌, ◌++◌, [], map, drop, length, sym, ap, ap₂, subst, arith, append-nil, rules, add-one}
use Rattle.std.proofs.lemmas.List.{drop_all, take_all}
use Rattle.std.proofs.lemmas.Simd.{map-map}
use Rattle.fc_spec.specs.documents.Sets.{places_on}
use Rattle.fc_spec.specs.requests.Statistics.{Stats, value_over}
use Rattle.fc_base.specs.StatisticView.{stat_view}
use Rattle.fc_partial.specs.StatsView.{stats_view}
use Rattle.fc_partial.specs.View.{stat_value_view}
use Rattle.fc_kind.specs.Columns.{HaveFields}
use Rattle.fc_kind.proofs.PutValues.{fields_left, put_one}
use Rattle.fc_kind.proofs.SetCounts.{places_counted}
use Rattle.fc_kind.proofs.set_statistics.stats_of_many.Goals as goal

pub loop-at-init : goal.loop-at-init
loop-at-init c =
    let values = ap (λ (s : Stats). s.values) c.in_ok-over.ensures ∙ map-map (λ s. value_over s []) stat_view c.args.stats.now in
    let count = c.from.ensures ∙ c.requires.count ∙ places_counted c.args.segment.now.blocks c.args.docs.now c.requires.length in
    record {
      so_far = ap₂ (λ n l. record { count = n; values = l }) count values;
      fields = c.requires.fields;
    }

pub loop-at-preserved : goal.loop-at-preserved
loop-at-preserved c =
    let stats = c.args.stats.now in
    let at = c.loop-at.at in
    let X = places_on 0 c.args.segment.now.blocks c.args.docs.now in
    let place : c.in_ok-place.place ≡ at = search rules in
    record {
      so_far = put_one (λ s. value_over (stat_view s) X) (λ s. value_over (stat_view s) []) _ stats at c.in_ok-place.place c.loop-at.over.count (length X)
          (map stat_value_view c.loop-at.over.values.items) (stats_view c.put_statistic.new.over) (omega arith) place c.loop-at.invariant.so_far
          c.in_ok-put_statistic.ensures;
      fields = subst (λ n. HaveFields c.args.segment.now.texts (map stat_view (drop n stats))) (sym (add-one at))
          (fields_left c.args.segment.now.texts stat_view stats at (omega arith) c.loop-at.invariant.fields);
    }

pub returns : goal.returns
returns c =
    let stats = c.args.stats.now in
    let X = places_on 0 c.args.segment.now.blocks c.args.docs.now in
    let done = ap (map (λ s. value_over (stat_view s) X)) (take_all c.loop-at.at stats (omega arith)) in
    let left = ap (map (λ s. value_over (stat_view s) [])) (drop_all c.loop-at.at stats (omega arith)) in
    c.loop-at.invariant.so_far
    ∙ ap (λ l. record { count = length X; values = l })
    (ap₂ (λ a b. a ++ b) done left ∙ append-nil (map (λ s. value_over (stat_view s) X) stats) ∙ sym (map-map (λ s. value_over s X) stat_view stats))
