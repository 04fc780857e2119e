use Rattle.std.proofs.Common.{◌≡◌, ◌+◌, ◌-◌, ◌*◌, ◌∙◌, length, map, Some, get_or, set, length-set, sym, ap, ap₂, arith, IsTrue}
use Rattle.std.proofs.lemmas.List.{get_or_read}
use Rattle.fc_base.specs.StatisticView.{stat_view}
use Rattle.fc_spec.specs.messages.MessageShape.{values_fit}
use Rattle.fc_spec.specs.requests.Statistics.{Stats}
use Rattle.fc_spec.specs.requests.Combining.{combined, combined_values}
use Rattle.fc_partial.specs.Adding.{HasShape}
use Rattle.fc_partial.specs.Celled.{Celled, cell_at, of_one}
use Rattle.fc_partial.specs.View.{stat_value_view}
use Rattle.fc_partial.proofs.CellRows.{every_set}
use Rattle.fc_partial.proofs.CombinedShape.{with_more_shape}
use Rattle.fc_partial.proofs.CellParts.{counter, count_of, rows_after, shaped_at, size_after, values_at, within}
use Rattle.fc_partial.proofs.cells.Cells.add.Goals as goal
use Rattle.fc_partial.proofs.cells.Cells.add.Goals.{After-self-2-1}

pub overflow_mul-start : goal.overflow_mul-start
overflow_mul-start c =
    let i = c.self.inside in
    omega (arith, within i c.args.self.now c.self.view_is c.self.invariant c.args.number c.requires.there c.len-width.result c.len-width.ensures, i.values.ok.0, i.values.small)

pub index_mut-requires : goal.index_mut-requires
index_mut-requires c =
    let i = c.self.inside in
    omega (arith, counter i c.args.self.now c.self.view_is c.self.invariant c.args.number c.requires.there, i.counts.ok.0)

pub overflow_add-index_mut : goal.overflow_add-index_mut
overflow_add-index_mut c =
    let i = c.self.inside in
    let there = counter i c.args.self.now c.self.view_is c.self.invariant c.args.number c.requires.there in
    omega (arith, c.requires.fits.count, get_or_read i.counts.items _ _ there c.index_mut.ensures.value 0, count_of i c.args.self.now c.self.view_is c.self.invariant c.args.number c.requires.there)

pub overflow_add-start : goal.overflow_add-start
overflow_add-start c =
    let i = c.self.inside in
    omega (arith, within i c.args.self.now c.self.view_is c.self.invariant c.args.number c.requires.there c.len-width.result c.len-width.ensures, i.values.ok.0, i.values.small)

pub offset_bounds-deref_mut-start : goal.offset_bounds-deref_mut-start
offset_bounds-deref_mut-start c =
    let i = c.self.inside in
    omega (arith, within i c.args.self.now c.self.view_is c.self.invariant c.args.number c.requires.there c.len-width.result c.len-width.ensures, i.values.ok.0, i.values.small)

pub slice_bounds-combine_values-end : goal.slice_bounds-combine_values-end
slice_bounds-combine_values-end c =
    let i = c.self.inside in
    omega (arith, within i c.args.self.now c.self.view_is c.self.invariant c.args.number c.requires.there c.len-width.result c.len-width.ensures, ap length c.deref_mut.ensures.value)

pub combine_values-requires-clause-shaped : goal.combine_values-requires-clause-shaped
combine_values-requires-clause-shaped c =
    let i = c.self.inside in
    let self = c.args.self.now in
    let shaped : IsTrue (values_fit self.stats (cell_at self.cells c.args.number).values) = shaped_at i self c.self.view_is c.self.invariant c.args.number c.requires.there c.len-width.result c.len-width.ensures in
    let own : IsTrue (values_fit (map stat_view i.stats.items) (cell_at self.cells c.args.number).values) = rw (sym (ap (λ (t : Celled). t.stats) c.self.view_is)) at shaped in
    rw (values_at i self c.self.view_is c.self.invariant c.args.number c.requires.there c.len-width.result c.len-width.ensures (c.args.number * c.len-width.result + c.len-width.result - c.args.number * c.len-width.result) c.deref_mut.result.now (omega arith) c.deref_mut.ensures.value, c.deref.ensures.value) own

pub combine_values-requires-clause-fit : goal.combine_values-requires-clause-fit
combine_values-requires-clause-fit c =
    rw (values_at c.self.inside c.args.self.now c.self.view_is c.self.invariant c.args.number c.requires.there c.len-width.result c.len-width.ensures (c.args.number * c.len-width.result + c.len-width.result - c.args.number * c.len-width.result) c.deref_mut.result.now (omega arith) c.deref_mut.ensures.value) c.requires.fits.numbers

-- which statistics are kept, and that those of the number have their shape when they are combined
kept : (c : After-self-2-1) → map stat_view c.self.inside.stats.items ≡ c.args.self.now.stats
kept c = ap (λ (t : Celled). t.stats) c.self.view_is

new : (c : After-self-2-1) → Stats
new c = combined c.args.self.now.stats (cell_at c.args.self.now.cells c.args.number) (of_one (map stat_value_view c.args.values.now))

fit : (c : After-self-2-1) → HasShape c.args.self.now.stats (new c)
unfolding new
fit c =
    let self = c.args.self.now in
    let own = shaped_at c.self.inside self c.self.view_is c.self.invariant c.args.number c.requires.there c.len-width.result c.len-width.ensures in
    with_more_shape self.stats (Some (cell_at self.cells c.args.number)) (of_one (map stat_value_view c.args.values.now)) own c.requires.shaped

made : (c : After-self-2-1) → map stat_value_view c.combine_values.new.values ≡ (new c).values
unfolding new
made c =
    let w = c.len-width.result in
    c.combine_values.ensures ∙ ap₂ (λ l vs. combined_values l vs (map stat_value_view c.args.values.now)) (ap (map stat_view) c.deref.ensures.value ∙ kept c)
    (values_at c.self.inside c.args.self.now c.self.view_is c.self.invariant c.args.number c.requires.there w c.len-width.ensures (c.args.number * w + w - c.args.number * w) c.deref_mut.result.now (omega arith) c.deref_mut.ensures.value)

count : (c : After-self-2-1) → c.index_mut.result.now ≡ get_or c.self.inside.counts.items c.args.number 0
count c = get_or_read c.self.inside.counts.items _ _ (counter c.self.inside c.args.self.now c.self.view_is c.self.invariant c.args.number c.requires.there) c.index_mut.ensures.value 0

pub invariant_of-self : goal.invariant_of-self
unfolding new
invariant_of-self c =
    let i = c.self.inside in
    let self = c.args.self.now in
    let n = c.args.number in
    let w = c.len-width.result in
    let others = map stat_value_view c.args.values.now in
    let k = n * w + w - n * w in
    let rows = rows_after i self c.self.view_is c.self.invariant n c.requires.there w c.len-width.ensures c.index_mut.result.now (count c) others k c.deref_mut.result.now c.combine_values.new.values (omega arith) c.deref_mut.ensures.value (made c) (fit c) in
    record {
      whole = size_after i self c.self.view_is c.self.invariant n c.requires.there w c.len-width.ensures c.index_mut.result.now (count c) others k c.deref_mut.result.now c.combine_values.new.values (omega arith) c.deref_mut.ensures.value (made c) (fit c)
          ∙ c.self.invariant.whole ∙ ap (λ m. m * length i.stats.items) (sym (length-set i.counts.items n (c.index_mut.result.now + 1)));
      shaped = rw rows (every_set (HasShape (map stat_view i.stats.items)) _ n _ c.self.invariant.shaped (rw (kept c) (fit c)));
    }

pub returns : goal.returns
unfolding new
returns c =
    let i = c.self.inside in
    let self = c.args.self.now in
    let n = c.args.number in
    let w = c.len-width.result in
    let others = map stat_value_view c.args.values.now in
    let k = n * w + w - n * w in
    let rows = rows_after i self c.self.view_is c.self.invariant n c.requires.there w c.len-width.ensures c.index_mut.result.now (count c) others k c.deref_mut.result.now c.combine_values.new.values (omega arith) c.deref_mut.ensures.value (made c) (fit c) in
    ap₂ (λ l cells. record { stats = l; cells = cells }) (kept c) (rows ∙ ap (λ (t : Celled). set t.cells n (combined self.stats (cell_at self.cells n) (of_one others))) c.self.view_is)
