use Rattle.std.proofs.Common.{◌≡◌, ◌∙◌, ◌+◌, ◌∷◌, suc, map, drop, drop-cons, add-one, ap, sym, subst}
use Rattle.std.proofs.lemmas.List.{drop_all}
use Rattle.fc_spec.specs.requests.Combining.{combined}
use Rattle.fc_spec.specs.requests.Statistics.{Stats}
use Rattle.fc_spec.proofs.requests.Statistics.{combined_assoc}
use Rattle.fc_base.specs.StatisticView.{stat_view}
use Rattle.fc_partial.specs.Adding.{HasShape}
use Rattle.fc_partial.specs.StatsView.{stats_view}
use Rattle.fc_refine.specs.Listings.{all_of, AddUpInTurn, listed_view}
use Rattle.fc_refine.proofs.Together.{neutral_left, neutral_right, neutral_shape, combined_shape, all_of_shape, shaped_at}
use Rattle.fc_refine.proofs.found.combined.Goals as goal

pub loop-one-init : goal.loop-one-init
loop-one-init c =
    let ss = map stat_view c.args.stats.now in
    let ls = map listed_view c.args.listed.now in
    let none = c.in_ok-all.ensures in
    record {
      shaped = subst (HasShape ss) (sym none) (neutral_shape ss);
      fit = subst (λ (s : Stats). AddUpInTurn ss s ls) (sym none) c.requires.fit;
      is = ap (λ (s : Stats). combined ss s (all_of ss ls)) none ∙ neutral_left ss (all_of ss ls) (all_of_shape ss ls c.requires.shaped);
    }

pub combine-requires-clause-other_shaped : goal.combine-requires-clause-other_shaped
combine-requires-clause-other_shaped c = shaped_at listed_view (map stat_view c.args.stats.now) c.args.listed.now c.loop-one.one-index c.one-item.result c.loop-one-test.true c.one-item.is c.requires.shaped

pub loop-one-preserved : goal.loop-one-preserved
loop-one-preserved c =
    let ss = map stat_view c.args.stats.now in
    let xs = c.args.listed.now in
    let i = c.loop-one.one-index in
    let item = c.one-item.result in
    let rest = map listed_view (drop (i + 1) xs) in
    let first : drop i xs ≡ item ∷ drop (i + 1) xs = rw add-one (drop-cons xs i item c.loop-one-test.true ∙ ap (λ x. x ∷ drop (suc i) xs) (sym c.one-item.is)) in
    let split : map listed_view (drop i xs) ≡ listed_view item ∷ rest = ap (map listed_view) first in
    let before = stats_view c.loop-one.all in
    let one = stats_view item.stats.now in
    let made = c.combine.ensures.combined in
    let shaped = shaped_at listed_view ss xs i item c.loop-one-test.true c.one-item.is c.requires.shaped in
    let fit = subst (AddUpInTurn ss before) split c.loop-one.invariant.fit in
    record {
      shaped = subst (HasShape ss) (sym made) (combined_shape ss before one c.loop-one.invariant.shaped shaped);
      fit = subst (λ (s : Stats). AddUpInTurn ss s rest) (sym made) fit.1;
      is = ap (λ (s : Stats). combined ss s (all_of ss rest)) made ∙ combined_assoc ss before one (all_of ss rest) ∙ sym (ap (λ l. combined ss before (all_of ss l)) split) ∙ c.loop-one.invariant.is;
    }

pub returns : goal.returns
returns c =
    let ss = map stat_view c.args.stats.now in
    let xs = c.args.listed.now in
    let none = ap (map listed_view) (drop_all c.loop-one.one-index xs c.loop-one-test.false) in
    sym (neutral_right ss (stats_view c.loop-one.all) c.loop-one.invariant.shaped) ∙ sym (ap (λ l. combined ss (stats_view c.loop-one.all) (all_of ss l)) none) ∙ c.loop-one.invariant.is
