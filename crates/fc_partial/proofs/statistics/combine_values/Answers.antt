use Rattle.std.proofs.Common.{◌<◌, ◌∙◌, map, length, sym, arith, rules, add-one}
use lib.IntN.{pos}
use Rattle.std.proofs.lemmas.List.{length-map, get_or-map, map-set}
use Rattle.fc_base.specs.StatisticView.{stat_view}
use Rattle.fc_base.specs.declared.statistic.Stat.{Stat}
use Rattle.fc_base.specs.declared.statistic.StatKind.TheVariants.{Sum}
use Rattle.fc_partial.specs.declared.statistics.StatValue.TheVariants.{Number}
use Rattle.fc_partial.specs.View.{stat_value_view}
use Rattle.fc_partial.proofs.CombiningSoFar.{length_from_shape, combined_more, numbers_more, numbers_at, combined_all}
use Rattle.fc_partial.proofs.statistics.combine_values.Goals as goal

pub combined-requires : goal.combined-requires
combined-requires c =
    let i = c.loop-at.at in
    let values = c.loop-at.values in
    let others = c.args.others.now in
    let d = Number (pos 0) in
    let lv : i < length values = omega arith in
    let lo : i < length others = omega arith in
    numbers_at i (map stat_value_view values) (map stat_value_view others) _ _
    (rw length-map lv) (rw length-map lo)
    (sym (get_or-map stat_value_view values i d _ lv)) (sym (get_or-map stat_value_view others i d _ lo)) c.loop-at.invariant.numbers

pub loop-at-init : goal.loop-at-init
loop-at-init c =
    let a = length_from_shape _ _ c.requires.shaped in
    let b = length_from_shape _ _ c.requires.other_shaped in
    record {
      so_far = search rules;
      numbers = search rules;
      long = sym (length-map c.args.values.now stat_value_view) ∙ a ∙ length-map c.args.stats.now stat_view;
      long_others = sym (length-map c.args.others.now stat_value_view) ∙ b ∙ length-map c.args.stats.now stat_view;
    }

pub loop-at-preserved : goal.loop-at-preserved
loop-at-preserved c =
    let i = c.loop-at.at in
    let stats = c.args.stats.now in
    let values = c.loop-at.values in
    let others = c.args.others.now in
    let e : Stat = record { of = Sum; field = record { 0 = 0 } } in
    let d = Number (pos 0) in
    let ls : i < length stats = omega arith in
    let lv : i < length values = omega arith in
    let lo : i < length others = omega arith in
    let more = combined_more i (map stat_view stats) (map stat_value_view values) (map stat_value_view others) _ _ _
    (rw length-map ls) (rw length-map lv) (rw length-map lo)
    (sym (get_or-map stat_view stats i e _ ls)) (sym (get_or-map stat_value_view values i d _ lv)) (sym (get_or-map stat_value_view others i d _ lo)) in
    rw (add-one, map-set, c.combined.ensures) (record {
      so_far = more ∙ c.loop-at.invariant.so_far;
      numbers = numbers_more i _ _ _ c.loop-at.invariant.numbers;
      long = search rules;
      long_others = c.loop-at.invariant.long_others;
    })

pub returns : goal.returns
returns c =
    let stats = c.args.stats.now in
    let values = c.loop-at.values in
    let others = c.args.others.now in
    sym (combined_all c.loop-at.at (map stat_view stats) (map stat_value_view values) (map stat_value_view others)
    (rw length-map (omega arith)) (simp length-map c.loop-at.invariant.long) (simp length-map c.loop-at.invariant.long_others)) ∙ c.loop-at.invariant.so_far
