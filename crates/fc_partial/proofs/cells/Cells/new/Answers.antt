use Rattle.std.proofs.Common.{◌≡◌, ◌-◌, ◌*◌, ◌∙◌, ◌++◌, List, [], length, map, replicate, sym, ap, ap₂, arith, rules, append-nil, append_assoc, suc, ◌+◌}
use Rattle.std.proofs.lemmas.List.{length-map, length-replicate}
use Rattle.fc_spec.specs.requests.Statistics.{StatValue, stats_over, value_over}
use Rattle.fc_base.specs.StatisticView.{stat_view}
use Rattle.fc_partial.specs.Adding.{HasShape}
use Rattle.fc_partial.specs.CellsView.{rows_of}
use Rattle.fc_partial.specs.View.{stat_value_view}
use Rattle.fc_partial.proofs.NeutralCells.{copies, every_replicate, length-copies, rows-copies, shape_over}
use Rattle.fc_partial.proofs.cells.Cells.new.Goals as goal
use Rattle.fc_partial.proofs.cells.Cells.new.Goals.{In_ok-vec}

pub loop-number-preserved : goal.loop-number-preserved
loop-number-preserved c =
    let row = (stats_over (map stat_view c.args.stats.items) []).values in
    let far = map stat_value_view c.loop-number.values.items in
    let m = c.args.bound - (c.loop-number._number + 1) in
    let e : c.args.bound - c.loop-number._number ≡ suc m = omega arith in
    ap (λ l. l ++ copies m row) (rw c.deref.ensures.value at c.in_ok-push_neutral.ensures) ∙ append_assoc far row (copies m row) ∙ ap (λ k. far ++ copies k row) (sym e) ∙ c.loop-number.invariant

-- the values of no document, number after number
neutral : (c : In_ok-vec) → List StatValue
neutral c = (stats_over (map stat_view c.args.stats.items) []).values

long : (c : In_ok-vec) → length (neutral c) ≡ length c.args.stats.items
unfolding neutral
long c = length-map (map stat_view c.args.stats.items) (λ s. value_over s []) ∙ length-map c.args.stats.items stat_view

counts : (c : In_ok-vec) → c.in_ok-vec.field-0.items ≡ replicate c.args.bound 0
counts c = search rules

values : (c : In_ok-vec) → map stat_value_view c.loop-number.values.items ≡ copies c.args.bound (neutral c)
unfolding neutral
values c =
    let none : c.args.bound - c.loop-number._number ≡ 0 = omega arith in
    rw (none, append-nil) at c.loop-number.invariant

cells : (c : In_ok-vec) → rows_of (length c.args.stats.items) c.in_ok-vec.field-0.items (map stat_value_view c.loop-number.values.items) ≡ replicate c.args.bound (stats_over (map stat_view c.args.stats.items) [])
unfolding neutral
cells c = ap₂ (λ cs vs. rows_of (length c.args.stats.items) cs vs) (counts c) (values c) ∙ rows-copies c.args.bound (length c.args.stats.items) (neutral c) (long c)

pub invariant_of-result : goal.invariant_of-result
invariant_of-result c = record {
  whole = sym (length-map c.loop-number.values.items stat_value_view) ∙ ap length (values c) ∙ length-copies c.args.bound (neutral c)
      ∙ ap₂ (λ m n. m * n) (sym (ap length (counts c) ∙ length-replicate c.args.bound 0)) (long c);
  shaped = rw (cells c) (every_replicate (HasShape (map stat_view c.args.stats.items)) c.args.bound _ (shape_over (map stat_view c.args.stats.items) []));
}

pub returns : goal.returns
returns c = ap (λ l. record { stats = map stat_view c.args.stats.items; cells = l }) (cells c)
