use Rattle.std.proofs.Common.{◌+◌, ◌-◌, ◌*◌, ◌∙◌, length, map, ap, ap₂, arith}
use Rattle.std.proofs.lemmas.List.{get_or_read}
use Rattle.fc_partial.specs.View.{stat_value_view}
use Rattle.fc_partial.proofs.CellParts.{counter, count_of, values_at, within}
use Rattle.fc_partial.proofs.cells.Cells.stats.Goals as goal

pub overflow_mul-start : goal.overflow_mul-start
overflow_mul-start c =
    let i = c.self.inside in
    omega (arith, within i c.args.self.now c.self.view_is c.self.invariant c.args.number c.requires c.len-width.result c.len-width.ensures, i.values.ok.0, i.values.small)

pub index-requires : goal.index-requires
index-requires c = omega (arith, counter c.self.inside c.args.self.now c.self.view_is c.self.invariant c.args.number c.requires, c.self.inside.counts.ok.0)

pub overflow_add-start : goal.overflow_add-start
overflow_add-start c =
    let i = c.self.inside in
    omega (arith, within i c.args.self.now c.self.view_is c.self.invariant c.args.number c.requires c.len-width.result c.len-width.ensures, i.values.ok.0, i.values.small)

pub offset_bounds-deref-start : goal.offset_bounds-deref-start
offset_bounds-deref-start c =
    let i = c.self.inside in
    omega (arith, within i c.args.self.now c.self.view_is c.self.invariant c.args.number c.requires c.len-width.result c.len-width.ensures, i.values.ok.0, i.values.small)

pub slice_bounds-from_slice-end : goal.slice_bounds-from_slice-end
slice_bounds-from_slice-end c =
    let i = c.self.inside in
    omega (arith, within i c.args.self.now c.self.view_is c.self.invariant c.args.number c.requires c.len-width.result c.len-width.ensures, ap length c.deref.ensures.value)

pub returns : goal.returns
returns c =
    let i = c.self.inside in
    let self = c.args.self.now in
    let n = c.args.number in
    let w = c.len-width.result in
    let count = get_or_read i.counts.items _ _ (counter i self c.self.view_is c.self.invariant n c.requires) c.index.ensures 0 ∙ count_of i self c.self.view_is c.self.invariant n c.requires in
    let values = ap (map stat_value_view) c.in_ok-from_slice.ensures.items
    ∙ values_at i self c.self.view_is c.self.invariant n c.requires w c.len-width.ensures (n * w + w - n * w) c.deref.result.now (omega arith) c.deref.ensures.value in
    ap₂ (λ m vs. record { count = m; values = vs }) count values
