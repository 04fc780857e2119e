use Rattle.std.proofs.Common.{◌≡◌, ◌∙◌, ◌+◌, List, [], ◌∷◌, length, map, pos, suc, arith, sym, ap, ap₂, subst, take}
use Rattle.std.proofs.lemmas.List.{take_all}
use Rattle.fc_spec.specs.requests.Statistics.{Stats, StatValue, stats_over}
use Rattle.fc_base.specs.StatisticView.{stat_view}
use Rattle.fc_partial.specs.Adding.{AddUp, HasShape}
use Rattle.fc_partial.specs.Fitting.{StatisticsFit}
use Rattle.fc_partial.specs.StatsView.{stats_view}
use Rattle.fc_partial.specs.View.{stat_value_view}
use Rattle.fc_partial.proofs.FittingSums.{add_up}
use Rattle.fc_partial.proofs.NeutralCells.{shape_over}
use Rattle.fc_count.specs.declared.countings.Entry.{Entry}
use Rattle.fc_count.specs.Rows.{rows_of, values_of_place}
use Rattle.fc_count.proofs.RowValues.{front_of_fitting, one_more, only_one, rows_more}
use Rattle.fc_count.proofs.runs.run_stats.Goals as goal

pub copy_row-requires : goal.copy_row-requires
copy_row-requires c =
    let first = c.args.first.now in
    c.requires.within 0 first (omega arith)

pub copy_row-requires-in-loop-entry : goal.copy_row-requires-in-loop-entry
copy_row-requires-in-loop-entry c =
    let none : Entry = record { number = pos 0; row = 0 } in
    let i = c.loop-entry.entry-index in
    c.requires.within (suc i) none (omega (arith, c.loop-entry-test.true))

pub combine-requires-clause-shaped : goal.combine-requires-clause-shaped
combine-requires-clause-shaped c =
    let ss = map stat_view c.args.stats.now in
    let w = length c.args.stats.now in
    let rows = c.args.rows.now in
    let first = c.args.first.now in
    let others = c.args.others.now in
    let i = c.loop-entry.entry-index in
    let before = front_of_fitting ss w rows first others i c.requires.fit in
    subst (HasShape ss) (sym (c.loop-entry.invariant.over before.places before.same)) (shape_over ss before.places)

pub combine-requires-clause-other_shaped : goal.combine-requires-clause-other_shaped
combine-requires-clause-other_shaped c =
    let ss = map stat_view c.args.stats.now in
    let w = length c.args.stats.now in
    let rows = c.args.rows.now in
    let first = c.args.first.now in
    let others = c.args.others.now in
    let none : Entry = record { number = pos 0; row = 0 } in
    let i = c.loop-entry.entry-index in
    let all = front_of_fitting ss w rows first others (i + 1) c.requires.fit in
    let more = one_more (values_of_place ss) all.places (rows_of w rows (first ∷ take i others)) _ (sym (rows_more w rows first others i none c.loop-entry-test.true) ∙ all.same) in
    rw (ap (map stat_value_view) c.in_ok-copy_row-2.ensures ∙ more.same_last) (shape_over ss (more.last ∷ []))

pub combine-requires-clause-fits : goal.combine-requires-clause-fits
combine-requires-clause-fits c =
    let ss = map stat_view c.args.stats.now in
    let w = length c.args.stats.now in
    let rows = c.args.rows.now in
    let first = c.args.first.now in
    let others = c.args.others.now in
    let none : Entry = record { number = pos 0; row = 0 } in
    let i = c.loop-entry.entry-index in
    let all = front_of_fitting ss w rows first others (i + 1) c.requires.fit in
    let more = one_more (values_of_place ss) all.places (rows_of w rows (first ∷ take i others)) _ (sym (rows_more w rows first others i none c.loop-entry-test.true) ∙ all.same) in
    let one : stats_view (record { count = c.loop-entry.one.count; values = c.copy_row-in-loop-entry.new.values }) ≡ stats_over ss (more.last ∷ []) =
    ap₂ (λ m vs. record { count = m; values = vs }) c.loop-entry.invariant.one (ap (map stat_value_view) c.in_ok-copy_row-2.ensures ∙ more.same_last) in
    subst (λ (a : Stats). AddUp a (stats_view (record { count = c.loop-entry.one.count; values = c.copy_row-in-loop-entry.new.values }))) (sym (c.loop-entry.invariant.over more.front more.same))
    (subst (AddUp (stats_over ss more.front)) (sym one) (add_up more.front (more.last ∷ []) (subst StatisticsFit more.all all.fit) ss))

pub loop-entry-init : goal.loop-entry-init
loop-entry-init c =
    let ss = map stat_view c.args.stats.now in
    record {
      over = λ places same.
          let only = only_one (values_of_place ss) places _ same in
          ap (λ (vs : List StatValue). record { count = 1; values = vs }) (ap (map stat_value_view) c.in_ok-copy_row.ensures ∙ only.2) ∙ ap (stats_over ss) (sym only.1);
      one = c.requires.one;
    }

pub loop-entry-preserved : goal.loop-entry-preserved
loop-entry-preserved c =
    let ss = map stat_view c.args.stats.now in
    let w = length c.args.stats.now in
    let rows = c.args.rows.now in
    let first = c.args.first.now in
    let others = c.args.others.now in
    let none : Entry = record { number = pos 0; row = 0 } in
    let i = c.loop-entry.entry-index in
    record {
      over = λ places same.
          let more = one_more (values_of_place ss) places (rows_of w rows (first ∷ take i others)) _ (sym (rows_more w rows first others i none c.loop-entry-test.true) ∙ same) in
          let one : stats_view (record { count = c.loop-entry.one.count; values = c.copy_row-in-loop-entry.new.values }) ≡ stats_over ss (more.last ∷ []) =
          ap₂ (λ m vs. record { count = m; values = vs }) c.loop-entry.invariant.one (ap (map stat_value_view) c.in_ok-copy_row-2.ensures ∙ more.same_last) in
          c.combine.ensures.of_both more.front (more.last ∷ []) (c.loop-entry.invariant.over more.front more.same) one ∙ ap (stats_over ss) (sym more.all);
      one = c.loop-entry.invariant.one;
    }

pub returns-clause-over : goal.returns-clause-over
returns-clause-over c = λ places same.
    let rows = c.args.rows.now in
    let first = c.args.first.now in
    let others = c.args.others.now in
    c.loop-entry.invariant.over places
    (ap (λ l. rows_of (length c.args.stats.now) rows (first ∷ l)) (take_all c.loop-entry.entry-index others c.loop-entry-test.false) ∙ same)
