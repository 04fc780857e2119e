use Rattle.std.proofs.Common.{◌+◌, [], vec_len, length, get_or, slice_range, sym, ap, ap₂, ◌∙◌, arith}
use Rattle.fc_lists.specs.Starts.{starts_in}
use Rattle.fc_lists.proofs.Cuts.{length-cut, get_or-cut, within_size}
use Rattle.fc_lists.proofs.lists.Lists.list.Goals as goal

pub start-from-requires : goal.start-from-requires
start-from-requires g c =
    let inside = c.self.inside in
    let starts = starts_in inside.starts (vec_len inside.items) in
    let long = length-cut starts inside.items.items in
    let all = ap length c.self.view_is in
    rw c.len.ensures (omega (arith, long, all, c.self.invariant.some))

pub start-to-requires : goal.start-to-requires
start-to-requires g c =
    let inside = c.self.inside in
    let starts = starts_in inside.starts (vec_len inside.items) in
    let long = length-cut starts inside.items.items in
    let all = ap length c.self.view_is in
    rw c.len-2.ensures (omega (arith, long, all, c.self.invariant.some))

pub part-requires-clause-order : goal.part-requires-clause-order
part-requires-clause-order g c =
    let inside = c.self.inside in
    let starts = starts_in inside.starts (vec_len inside.items) in
    let at = c.args.at in
    let long = length-cut starts inside.items.items in
    let all = ap length c.self.view_is in
    let from = c.start-from.ensures ∙ ap (λ n. get_or (starts_in inside.starts n) at 0) c.len.ensures in
    let to = c.start-to.ensures ∙ ap (λ n. get_or (starts_in inside.starts n) (at + 1) 0) c.len-2.ensures in
    let rises = c.self.invariant.rising at (at + 1) 0 (omega arith) (omega (arith, long, all, c.self.invariant.some)) in
    omega (arith, from, to, rises)

pub part-requires-clause-within : goal.part-requires-clause-within
part-requires-clause-within g c =
    let inside = c.self.inside in
    let starts = starts_in inside.starts (vec_len inside.items) in
    let at = c.args.at in
    let long = length-cut starts inside.items.items in
    let all = ap length c.self.view_is in
    let to = c.start-to.ensures ∙ ap (λ n. get_or (starts_in inside.starts n) (at + 1) 0) c.len-2.ensures in
    let below = within_size starts (vec_len inside.items) (at + 1) c.self.invariant (omega (arith, long, all, c.self.invariant.some)) in
    omega (arith, to, below)

pub returns : goal.returns
returns g c =
    let inside = c.self.inside in
    let starts = starts_in inside.starts (vec_len inside.items) in
    let items = inside.items.items in
    let at = c.args.at in
    let long = length-cut starts items in
    let all = ap length c.self.view_is in
    let from = c.start-from.ensures ∙ ap (λ n. get_or (starts_in inside.starts n) at 0) c.len.ensures in
    let to = c.start-to.ensures ∙ ap (λ n. get_or (starts_in inside.starts n) (at + 1) 0) c.len-2.ensures in
    c.part.ensures
    ∙ ap (λ l. slice_range l c.start-from.result c.start-to.result) c.deref.ensures.value
    ∙ ap₂ (slice_range items) from to
    ∙ sym (get_or-cut starts items at (omega (arith, long, all)))
    ∙ ap (λ (lists : _). get_or lists at []) c.self.view_is
