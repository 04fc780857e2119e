use Rattle.std.proofs.Common.{◌≡◌, ◌<◌, ◌∙◌, [], ◌∷◌, All, length, map, w64, to_z, of_z, refl, sym, ap, subst, rules}
use Rattle.std.specs.Option.{ForSome}
use Rattle.std.proofs.lemmas.List.{length-map, nil_from_length}
use Rattle.std.proofs.lemmas.List.Elements.{All-cons, All-drop, All-head, All-tail, All-take}
use Rattle.std.proofs.lemmas.List.Sorted.{All-permutation}
use Rattle.fc_spec.specs.documents.Totals.{document_total}
use Rattle.fc_spec.specs.requests.Statistics.{Stats, stats_over}
use Rattle.fc_base.specs.StatisticView.{stat_view}
use Rattle.fc_partial.specs.Adding.{AddUp, HasShape}
use Rattle.fc_partial.specs.StatsView.{stats_view}
use Rattle.fc_partial.specs.Tallying.{AddsTo, entry_at}
use Rattle.fc_partial.specs.View.{stat_value_view}
use Rattle.fc_partial.proofs.NeutralCells.{shape_over}
use Rattle.fc_count.specs.declared.countings.Entry.{Entry}
use Rattle.fc_count.specs.Rows.{Rise, entries_of, values_at}
use Rattle.fc_count.specs.Runs.{NumbersAddUp}
use Rattle.fc_count.proofs.RowPlaces.{all_below, row_places, sorted_numbers, sorted_places}
use Rattle.fc_count.proofs.RowValues.{all_within, read_in, rows_read}
use Rattle.fc_count.proofs.RunParts.{IsAdded, all_added, entries_add_up, entries_fit, none_added}
use Rattle.fc_count.proofs.RunSteps.{cut_at, step_added, step_adds_up, step_fits, step_has_key}
use Rattle.fc_count.proofs.SortedRuns.{rise_behind}
use Rattle.fc_count.proofs.runs.add_runs.Goals as goal

pub read_rows-requires-clause-there : goal.read_rows-requires-clause-there
read_rows-requires-clause-there g c =
    let total = document_total c.args.segment.now.blocks in
    subst (All (λ at. at < total)) (sym c.deref.ensures.value) (all_below total c.args.countings c.into_parts-positions.result.0.items c.requires.there c.into_parts-positions.ensures.counted)

pub loop-first-init : goal.loop-first-init
loop-first-init g c =
    let has = c.into_parts-positions.ensures.there in
    let ps = c.into_parts-positions.result.0.items in
    record {
      rising = subst Rise (sym c.deref-2.ensures.value) c.in_ok-sorted.ensures.rising;
      there = subst (All (λ (e : Entry). e.row < length ps)) (sym c.deref-2.ensures.value) (All-permutation (λ (e : Entry). e.row < length ps) c.into_parts-positions.result.1.items c.in_ok-sorted.sorted.items c.in_ok-sorted.ensures.moved has);
      added = none_added c.args.segment.now.blocks ps (g.K.Keys.key c.args.keys.now) c.deref-2.result.now c.args.into.now;
      one = refl;
    }

pub run_length-requires : goal.run_length-requires
run_length-requires g c = record { rising = subst Rise c.in-Some.ensures.cases.0 c.loop-first.invariant.rising }

pub run_stats-requires-clause-within : goal.run_stats-requires-clause-within
run_stats-requires-clause-within g c =
    let blocks = c.args.segment.now.blocks in
    let ss = map stat_view c.args.stats.now in
    let has_key = g.K.Keys.has_key c.args.keys.now in
    let key = g.K.Keys.key c.args.keys.now in
    let ps = c.into_parts-positions.result.0.items in
    let first = c.in-Some.first.now in
    let run = c.split_at.result.0.now in
    let behind = c.split_at.result.1.now in
    let rows = c.deref-in-Some.result.now in
    let wide : length c.args.stats.now ≡ length ss = sym (length-map c.args.stats.now stat_view) in
    let read : map stat_value_view rows ≡ values_at blocks ss ps = read_in blocks ss ps c.deref.result.now rows c.in_ok-rows.rows.items c.deref-in-Some.ensures.value c.deref.ensures.value c.in_ok-rows.ensures in
    let P : Entry → Type 0 = λ e. e.row < length ps in
    let rest = subst (All P) c.in-Some.ensures.cases.0 c.loop-first.invariant.there in
    let there = All-cons P first run (All-head P first c.in-Some.others.now rest) (subst (All P) (sym c.split_at.ensures.front) (All-take P c.run_length.result c.in-Some.others.now (All-tail P first c.in-Some.others.now rest))) in
    all_within blocks ss ps rows (length c.args.stats.now) wide read (first ∷ run) there

pub run_stats-requires-clause-fit : goal.run_stats-requires-clause-fit
run_stats-requires-clause-fit g c =
    let blocks = c.args.segment.now.blocks in
    let ss = map stat_view c.args.stats.now in
    let has_key = g.K.Keys.has_key c.args.keys.now in
    let key = g.K.Keys.key c.args.keys.now in
    let ps = c.into_parts-positions.result.0.items in
    let first = c.in-Some.first.now in
    let run = c.split_at.result.0.now in
    let behind = c.split_at.result.1.now in
    let rows = c.deref-in-Some.result.now in
    let wide : length c.args.stats.now ≡ length ss = sym (length-map c.args.stats.now stat_view) in
    let read : map stat_value_view rows ≡ values_at blocks ss ps = read_in blocks ss ps c.deref.result.now rows c.in_ok-rows.rows.items c.deref-in-Some.ensures.value c.deref.ensures.value c.in_ok-rows.ensures in
    let P : Entry → Type 0 = λ e. e.row < length ps in
    let rest = subst (All P) c.in-Some.ensures.cases.0 c.loop-first.invariant.there in
    let there = All-cons P first run (All-head P first c.in-Some.others.now rest) (subst (All P) (sym c.split_at.ensures.front) (All-take P c.run_length.result c.in-Some.others.now (All-tail P first c.in-Some.others.now rest))) in
    let es = c.into_parts-positions.result.1.items in
    let all = c.deref-2.result.now in
    let same = sorted_places blocks ps es all c.args.countings c.into_parts-positions.ensures.same (λ n. ap (entries_of n) c.deref-2.ensures.value ∙ c.in_ok-sorted.ensures.same n) in
    let has = sorted_numbers has_key ps es c.in_ok-sorted.sorted.items all c.args.countings c.into_parts-positions.ensures.same c.in_ok-sorted.ensures.moved c.deref-2.ensures.value c.requires.numbers in
    let cut = cut_at c.loop-first.rest.now first c.in-Some.others.now run behind c.run_length.result
    c.in-Some.ensures.cases.0 c.run_length.ensures.within c.split_at.ensures.front c.split_at.ensures.back c.run_length.ensures.run c.run_length.ensures.behind in
    record {
      places = row_places blocks ps (first ∷ run);
      same = rows_read blocks ss ps rows (length c.args.stats.now) wide read (first ∷ run) there;
      fit = step_fits blocks ps has_key key c.requires.apart all c.loop-first.rest.now run behind first has c.args.into.now c.loop-first.into c.loop-first.invariant.added cut
          (entries_fit blocks ps all c.args.countings same c.requires.fit);
    }

pub add-requires-clause-number : goal.add-requires-clause-number
add-requires-clause-number g c =
    let blocks = c.args.segment.now.blocks in
    let ss = map stat_view c.args.stats.now in
    let has_key = g.K.Keys.has_key c.args.keys.now in
    let key = g.K.Keys.key c.args.keys.now in
    let ps = c.into_parts-positions.result.0.items in
    let first = c.in-Some.first.now in
    let run = c.split_at.result.0.now in
    let behind = c.split_at.result.1.now in
    let es = c.into_parts-positions.result.1.items in
    let all = c.deref-2.result.now in
    let same = sorted_places blocks ps es all c.args.countings c.into_parts-positions.ensures.same (λ n. ap (entries_of n) c.deref-2.ensures.value ∙ c.in_ok-sorted.ensures.same n) in
    let has = sorted_numbers has_key ps es c.in_ok-sorted.sorted.items all c.args.countings c.into_parts-positions.ensures.same c.in_ok-sorted.ensures.moved c.deref-2.ensures.value c.requires.numbers in
    let cut = cut_at c.loop-first.rest.now first c.in-Some.others.now run behind c.run_length.result
    c.in-Some.ensures.cases.0 c.run_length.ensures.within c.split_at.ensures.front c.split_at.ensures.back c.run_length.ensures.run c.run_length.ensures.behind in
    let number : to_z w64 (of_z w64 first.number) ≡ first.number = search rules in
    subst has_key (sym number) (step_has_key blocks ps has_key key c.requires.apart all c.loop-first.rest.now run behind first has c.args.into.now c.loop-first.into c.loop-first.invariant.added cut)

pub add-requires-clause-shaped : goal.add-requires-clause-shaped
add-requires-clause-shaped g c =
    let blocks = c.args.segment.now.blocks in
    let ss = map stat_view c.args.stats.now in
    let has_key = g.K.Keys.has_key c.args.keys.now in
    let key = g.K.Keys.key c.args.keys.now in
    let ps = c.into_parts-positions.result.0.items in
    let first = c.in-Some.first.now in
    let run = c.split_at.result.0.now in
    let behind = c.split_at.result.1.now in
    let rows = c.deref-in-Some.result.now in
    let wide : length c.args.stats.now ≡ length ss = sym (length-map c.args.stats.now stat_view) in
    let read : map stat_value_view rows ≡ values_at blocks ss ps = read_in blocks ss ps c.deref.result.now rows c.in_ok-rows.rows.items c.deref-in-Some.ensures.value c.deref.ensures.value c.in_ok-rows.ensures in
    let P : Entry → Type 0 = λ e. e.row < length ps in
    let rest = subst (All P) c.in-Some.ensures.cases.0 c.loop-first.invariant.there in
    let there = All-cons P first run (All-head P first c.in-Some.others.now rest) (subst (All P) (sym c.split_at.ensures.front) (All-take P c.run_length.result c.in-Some.others.now (All-tail P first c.in-Some.others.now rest))) in
    let over : stats_view c.run_stats.new.over ≡ stats_over ss (row_places blocks ps (first ∷ run)) =
    c.in_ok-run_stats.ensures.over (row_places blocks ps (first ∷ run)) (rows_read blocks ss ps rows (length c.args.stats.now) wide read (first ∷ run) there) in
    subst (λ s. HasShape s (stats_view c.run_stats.new.over)) (sym (c.loop-first.invariant.added.stats ∙ c.requires.stats)) (subst (HasShape ss) (sym over) (shape_over ss (row_places blocks ps (first ∷ run))))

pub add-requires-clause-fits : goal.add-requires-clause-fits
add-requires-clause-fits g c =
    let blocks = c.args.segment.now.blocks in
    let ss = map stat_view c.args.stats.now in
    let has_key = g.K.Keys.has_key c.args.keys.now in
    let key = g.K.Keys.key c.args.keys.now in
    let ps = c.into_parts-positions.result.0.items in
    let first = c.in-Some.first.now in
    let run = c.split_at.result.0.now in
    let behind = c.split_at.result.1.now in
    let rows = c.deref-in-Some.result.now in
    let wide : length c.args.stats.now ≡ length ss = sym (length-map c.args.stats.now stat_view) in
    let read : map stat_value_view rows ≡ values_at blocks ss ps = read_in blocks ss ps c.deref.result.now rows c.in_ok-rows.rows.items c.deref-in-Some.ensures.value c.deref.ensures.value c.in_ok-rows.ensures in
    let P : Entry → Type 0 = λ e. e.row < length ps in
    let rest = subst (All P) c.in-Some.ensures.cases.0 c.loop-first.invariant.there in
    let there = All-cons P first run (All-head P first c.in-Some.others.now rest) (subst (All P) (sym c.split_at.ensures.front) (All-take P c.run_length.result c.in-Some.others.now (All-tail P first c.in-Some.others.now rest))) in
    let es = c.into_parts-positions.result.1.items in
    let all = c.deref-2.result.now in
    let same = sorted_places blocks ps es all c.args.countings c.into_parts-positions.ensures.same (λ n. ap (entries_of n) c.deref-2.ensures.value ∙ c.in_ok-sorted.ensures.same n) in
    let has = sorted_numbers has_key ps es c.in_ok-sorted.sorted.items all c.args.countings c.into_parts-positions.ensures.same c.in_ok-sorted.ensures.moved c.deref-2.ensures.value c.requires.numbers in
    let cut = cut_at c.loop-first.rest.now first c.in-Some.others.now run behind c.run_length.result
    c.in-Some.ensures.cases.0 c.run_length.ensures.within c.split_at.ensures.front c.split_at.ensures.back c.run_length.ensures.run c.run_length.ensures.behind in
    let over : stats_view c.run_stats.new.over ≡ stats_over ss (row_places blocks ps (first ∷ run)) =
    c.in_ok-run_stats.ensures.over (row_places blocks ps (first ∷ run)) (rows_read blocks ss ps rows (length c.args.stats.now) wide read (first ∷ run) there) in
    let number : to_z w64 (of_z w64 first.number) ≡ first.number = search rules in
    let sums = step_adds_up blocks ps has_key key c.requires.apart all c.loop-first.rest.now run behind first has c.args.into.now c.loop-first.into c.loop-first.invariant.added cut ss
    (entries_add_up blocks ps ss key all c.args.countings c.args.into.now.entries same (subst (λ s. NumbersAddUp blocks s key c.args.countings c.args.into.now.entries) c.requires.stats c.requires.add_up)) in
    subst (λ n. ForSome (entry_at c.loop-first.into.entries (key n)) (λ there. AddUp there (stats_view c.run_stats.new.over))) (sym number)
    (subst (λ (more : Stats). ForSome (entry_at c.loop-first.into.entries (key first.number)) (λ there. AddUp there more)) (sym over) sums)

pub loop-first-preserved : goal.loop-first-preserved
loop-first-preserved g c =
    let blocks = c.args.segment.now.blocks in
    let ss = map stat_view c.args.stats.now in
    let has_key = g.K.Keys.has_key c.args.keys.now in
    let key = g.K.Keys.key c.args.keys.now in
    let ps = c.into_parts-positions.result.0.items in
    let first = c.in-Some.first.now in
    let run = c.split_at.result.0.now in
    let behind = c.split_at.result.1.now in
    let rows = c.deref-in-Some.result.now in
    let wide : length c.args.stats.now ≡ length ss = sym (length-map c.args.stats.now stat_view) in
    let read : map stat_value_view rows ≡ values_at blocks ss ps = read_in blocks ss ps c.deref.result.now rows c.in_ok-rows.rows.items c.deref-in-Some.ensures.value c.deref.ensures.value c.in_ok-rows.ensures in
    let P : Entry → Type 0 = λ e. e.row < length ps in
    let rest = subst (All P) c.in-Some.ensures.cases.0 c.loop-first.invariant.there in
    let there = All-cons P first run (All-head P first c.in-Some.others.now rest) (subst (All P) (sym c.split_at.ensures.front) (All-take P c.run_length.result c.in-Some.others.now (All-tail P first c.in-Some.others.now rest))) in
    let es = c.into_parts-positions.result.1.items in
    let all = c.deref-2.result.now in
    let same = sorted_places blocks ps es all c.args.countings c.into_parts-positions.ensures.same (λ n. ap (entries_of n) c.deref-2.ensures.value ∙ c.in_ok-sorted.ensures.same n) in
    let has = sorted_numbers has_key ps es c.in_ok-sorted.sorted.items all c.args.countings c.into_parts-positions.ensures.same c.in_ok-sorted.ensures.moved c.deref-2.ensures.value c.requires.numbers in
    let cut = cut_at c.loop-first.rest.now first c.in-Some.others.now run behind c.run_length.result
    c.in-Some.ensures.cases.0 c.run_length.ensures.within c.split_at.ensures.front c.split_at.ensures.back c.run_length.ensures.run c.run_length.ensures.behind in
    let over : stats_view c.run_stats.new.over ≡ stats_over ss (row_places blocks ps (first ∷ run)) =
    c.in_ok-run_stats.ensures.over (row_places blocks ps (first ∷ run)) (rows_read blocks ss ps rows (length c.args.stats.now) wide read (first ∷ run) there) in
    let others = c.in-Some.others.now in
    let number : to_z w64 (of_z w64 first.number) ≡ first.number = search rules in
    record {
      rising = subst Rise (sym c.split_at.ensures.back) (rise_behind c.run_length.result first others (subst Rise c.in-Some.ensures.cases.0 c.loop-first.invariant.rising));
      there = subst (All P) (sym c.split_at.ensures.back) (All-drop P c.run_length.result others (All-tail P first others (subst (All P) c.in-Some.ensures.cases.0 c.loop-first.invariant.there)));
      added = step_added blocks ps has_key key c.requires.apart all c.loop-first.rest.now run behind first
          has c.args.into.now c.loop-first.into c.loop-first.invariant.added cut c.add.new.into (stats_view c.run_stats.new.over)
          (over ∙ ap (λ s. stats_over s (row_places blocks ps (first ∷ run))) (sym c.requires.stats)) c.in_ok-add.ensures.stats
          (subst (λ n. AddsTo c.loop-first.into c.add.new.into (key n) (stats_view c.run_stats.new.over)) number c.in_ok-add.ensures.keys);
      one = c.in_ok-run_stats.ensures.one;
    }

pub returns : goal.returns
returns g c =
    let blocks = c.args.segment.now.blocks in
    let key = g.K.Keys.key c.args.keys.now in
    let ps = c.into_parts-positions.result.0.items in
    let all = c.deref-2.result.now in
    let same = sorted_places blocks ps c.into_parts-positions.result.1.items all c.args.countings c.into_parts-positions.ensures.same (λ n. ap (entries_of n) c.deref-2.ensures.value ∙ c.in_ok-sorted.ensures.same n) in
    let none : c.loop-first.rest.now ≡ [] = nil_from_length c.loop-first.rest.now c.in_default.ensures.cases in
    all_added blocks ps key all c.args.into.now c.loop-first.into (subst (λ l. IsAdded blocks ps key all l c.args.into.now c.loop-first.into) none c.loop-first.invariant.added) c.args.countings same
